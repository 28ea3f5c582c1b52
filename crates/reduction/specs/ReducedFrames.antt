-- What reduced_frame gives.
use Rattle.std.specs.Prelude.{◌*◌, unsigned_abs}
use Rattle.fractions.specs.declared.part.TheConstants.{UNIT}
use Rattle.symmetry.specs.Vectors.{Vector}
use Rattle.symmetry.specs.Groups.{Listing}
use Rattle.symmetry.specs.Sizes.{IsVectorWithin}
use Rattle.symmetry.specs.Frames.{Basis as ThreeVectors, IsSkewed}
use Rattle.motions.specs.BasisView.{basis_of}
use Rattle.motions.specs.Views.{row_of}
use Rattle.motions.specs.declared.basis.Basis.{Basis}
use Rattle.motions.specs.declared.miller.Miller.{Miller}
use Rattle.plane_lattice.specs.declared.frame.Frame.{Frame}
use Rattle.plane_lattice.specs.FrameOf.{IsFrameOf}
use Rattle.reduction.specs.Reduced.{IsReducedFrame}
use Rattle.reduction.specs.declared.reduced.ReductionFault.{ReductionFault}
use Rattle.reduction.specs.declared.reduced.ReductionFault.TheVariants.{OutOfRange, Skewed}

-- no entry is above 1000 cell edges in size
pub record IsInRange (f : ThreeVectors) : Type 0 where
  pub a : IsVectorWithin (1000 * unsigned_abs UNIT) f.a
  pub b : IsVectorWithin (1000 * unsigned_abs UNIT) f.b
  pub tau : IsVectorWithin (1000 * unsigned_abs UNIT) f.tau

-- the frame of what is listed and the plane with three vectors that are reduced and in range
pub record IsReducedFrameOf (g : Listing) (orientation : Miller) (frame : Frame) : Type 0 where
  pub basis : Basis
  pub frame_of : IsFrameOf g orientation basis frame
  pub reduced : IsReducedFrame g (row_of orientation) (basis_of basis)
  pub in_range : IsInRange (basis_of basis)

-- three vectors are a reduced frame, which is out of range; which is skewed
abbrev pub IsReductionFault : Listing → Vector → ReductionFault → Type 0
IsReductionFault g r OutOfRange = (f : ThreeVectors) × IsReducedFrame g r f × ¬ IsInRange f
IsReductionFault g r Skewed = (f : ThreeVectors) × IsReducedFrame g r f × IsSkewed g r f
