-- What Frame::make gives.
use Rattle.std.specs.Prelude.{◌≡◌, List}
use Rattle.symmetry.specs.Groups.{Listing}
use Rattle.symmetry.specs.Motions.{Motion}
use Rattle.symmetry.specs.Vectors.{Vector}
use Rattle.symmetry.specs.Frames.{Basis as ThreeVectors, IsFrame, IsPeriod, IsSkewed, mean_of}
use Rattle.symmetry.specs.Lists.{AreScanning}
use Rattle.motions.specs.BasisView.{basis_of}
use Rattle.motions.specs.Views.{parts, row_of}
use Rattle.motions.specs.declared.basis.Basis.{Basis}
use Rattle.motions.specs.declared.basis.FrameFault.{FrameFault}
use Rattle.motions.specs.declared.basis.FrameFault.TheVariants.{NotFrame, Skewed}
use Rattle.motions.specs.declared.miller.Miller.{Miller}
use Rattle.closure.specs.declared.group.Group.{Group}
use Rattle.closure.specs.Groups.{group_listing}
use Rattle.plane_lattice.specs.declared.frame.Frame.{Frame}
use Rattle.plane_lattice.specs.FrameView.{basis_of_frame}
use Rattle.plane_lattice.specs.Scanning.{IsPointOf}

-- the frame of what is listed and the plane with these vectors: it is a frame that is not skewed, with the period and the
-- vector c', the mean over the scanning operations
pub record IsFrameOf (g : Listing) (orientation : Miller) (basis : Basis) (frame : Frame) : Type 0 where
  pub plane : frame.plane ≡ orientation
  pub a : frame.a ≡ basis.a
  pub b : frame.b ≡ basis.b
  pub tau : frame.tau ≡ basis.tau
  pub is_frame : IsFrame g (row_of orientation) (basis_of basis)
  pub not_skewed : ¬ IsSkewed g (row_of orientation) (basis_of basis)
  pub period : IsPeriod g (row_of orientation) frame.period.0
  pub scanning : List Motion
  pub are_scanning : AreScanning g (row_of orientation) scanning
  pub mean : IsPointOf (mean_of (row_of orientation) (parts basis.tau) scanning) frame.c

-- the frame is one of what is listed and its plane
abbrev pub HasFrame : Listing → Frame → Type 0
HasFrame g frame = IsFrame g (row_of frame.plane) (basis_of_frame frame)

-- the vectors are no frame; they are one that is skewed
abbrev pub IsFrameFault : Listing → Vector → ThreeVectors → FrameFault → Type 0
IsFrameFault g r f NotFrame = ¬ IsFrame g r f
IsFrameFault g r f Skewed = IsFrame g r f × IsSkewed g r f

-- the frame is one that Frame::make gives for the group
abbrev pub IsMadeFor : Group → Frame → Type 0
IsMadeFor group frame = (plane : Miller) × (basis : Basis) × IsFrameOf (group_listing group) plane basis frame
