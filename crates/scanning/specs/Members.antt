-- The members of a group that keep the row, and those that turn it, operation by operation.
use Rattle.std.specs.Prelude.{◌≡◌, ◌⊎◌, ℤ, pos, List, Option, None, Some, unsigned_abs}
use Rattle.std.specs.List.{AllZip}
use Rattle.fractions.specs.declared.part.TheConstants.{UNIT}
use Rattle.integers.specs.Size.{IsWithin}
use Rattle.symmetry.specs.Motions.{Motion}
use Rattle.symmetry.specs.Planes.{KeepsRow}
use Rattle.symmetry.specs.Groups.{Listing, IsMember, FixesEveryPlaneByRow, SameModulo}
use Rattle.symmetry.specs.Frames.{Basis, IsAtHome}
use Rattle.symmetry.specs.Vectors.{Vector, dot, opposite, row_times}
use Rattle.motions.specs.ListedSizes.{IsSmallWithin}
use Rattle.motions.specs.Views.{motion_of, row_of}
use Rattle.motions.specs.declared.motion.Motion3.{Motion3}
use Rattle.motions.specs.declared.motion.Sign.{Sign}
use Rattle.motions.specs.declared.motion.Sign.TheVariants.{Plus, Minus}
use Rattle.closure.specs.declared.group.TheConstants.{MAX_ENTRY}
use Rattle.plane_lattice.specs.FrameView.{basis_of_frame}
use Rattle.plane_lattice.specs.declared.frame.Frame.{Frame}
use Rattle.scanning.specs.Bounds.{largest_shift}

-- the members that keep the row, and those that turn it with this (hkl).w, in parts; none of the latter where none is given
abbrev pub InRows : Listing → Vector → Option ℤ → Motion → Type 0
InRows g r None m = FixesEveryPlaneByRow g r m
InRows g r (Some t) m = IsMember g m × (KeepsRow r m ⊎ ((row_times r m.matrix ≡ opposite r) × (dot r m.translation ≡ t)))

-- the (hkl).w of the former is 0, and of the latter what is given
abbrev pub asked : Sign → Option ℤ → Option ℤ
asked Plus turned = Some (pos 0)
asked Minus turned = turned

-- a motion at home, with small numbers
pub record IsHomeMotion (r : Vector) (f : Basis) (m : Motion) : Type 0 where
  pub home : IsAtHome f m
  pub small : IsSmallWithin (unsigned_abs MAX_ENTRY) m
  pub translation : IsWithin (largest_shift (unsigned_abs UNIT)) (dot r m.translation)

-- the same of a motion and a frame of the code
abbrev pub IsHomeOf : Frame → Motion3 → Type 0
IsHomeOf frame m = IsHomeMotion (row_of frame.plane) (basis_of_frame frame) (motion_of m)

-- place by place the motions are the same as the operations modulo the lattice
abbrev pub AreSameMotions : Listing → List Motion → List Motion → Type 0
AreSameMotions g ops ms = AllZip (λ m n. SameModulo g n m) ops ms
