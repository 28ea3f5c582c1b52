-- What is found of the sections of a group, and what the code makes of their motions.
use Rattle.std.specs.Prelude.{ℤ, pos, ◌*ℤ◌, ◌≤ℤ◌, ◌<ℤ◌, List, All}
use Rattle.fractions.specs.declared.part.TheConstants.{UNIT}
use Rattle.fractions.specs.Fraction.{SameFraction}
use Rattle.symmetry.specs.Vectors.{Vector, dot}
use Rattle.symmetry.specs.Motions.{Motion}
use Rattle.symmetry.specs.Planes.{Height, KeepsPlane}
use Rattle.symmetry.specs.Groups.{Listing, FixesEveryPlane, InStabiliser, IsMember}
use Rattle.symmetry.specs.Frames.{Basis, IsAtHome, IsSpecial, mean_of}
use Rattle.symmetry.specs.Lists.{AreScanning, IsHomeList}
use Rattle.symmetry.specs.Scans.{IsInPeriod, SpecialHeight}
use Rattle.symmetry.specs.Sizes.{IsSmall}
use Rattle.motions.specs.declared.layer.LayerMotion.{LayerMotion}
use Rattle.motions.specs.Layers.{planar_of}
use Rattle.motions.specs.Rationals.{rational_of}
use Rattle.plane_lattice.specs.Sections.{IsSeenAs, height_in_steps, in_cell, point_at}

-- the height is k steps above the origin, of which a period has 2 UNIT
pub record IsAtStep (d : ℤ) (s : Height) (k : ℤ) : Type 0 where
  pub from : pos 0 ≤ℤ k
  pub below : k <ℤ (pos 2 *ℤ UNIT)
  pub is : SameFraction s (height_in_steps d k)

-- a small member of the group, at home, that maps the plane of the height to itself
pub record IsOnPlane (g : Listing) (r : Vector) (f : Basis) (s : Height) (m : Motion) : Type 0 where
  pub small : IsSmall m
  pub home : IsAtHome f m
  pub member : IsMember g m
  pub keeps : KeepsPlane r s m

-- from k steps along tau the motion is seen as this motion of a layer
abbrev pub IsSeen : Listing → Vector → Basis → ℤ → Motion → LayerMotion → Type 0
IsSeen g r f k m n =
    (ms : List Motion) → AreScanning g r ms
    → IsSeenAs f (mean_of r f.tau ms) (point_at (dot r f.tau) (height_in_steps (dot r f.tau) k) (in_cell f.tau)) m (rational_of (planar_of n))

-- small motions, the list of those that map every plane to itself
pub record IsGeneralList (g : Listing) (r : Vector) (f : Basis) (ops : List Motion) : Type 0 where
  pub small : All IsSmall ops
  pub list : IsHomeList g f (FixesEveryPlane g r) ops

-- a special height from 0 to below the period, with small motions, the list of its stabiliser
pub record IsSpecialList (g : Listing) (r : Vector) (f : Basis) (h : SpecialHeight) : Type 0 where
  pub small : All IsSmall h.ops
  pub list : IsHomeList g f (InStabiliser g r h.height) h.ops
  pub in_period : IsInPeriod (dot r f.tau) h.height
  pub special : IsSpecial g r h.height
