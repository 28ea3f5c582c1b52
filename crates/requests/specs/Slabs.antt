-- The operations that map a slab to itself.
use Rattle.std.specs.Prelude.{◌≡◌, ℕ, List}
use Rattle.fractions.specs.Fraction.{Fraction}
use Rattle.symmetry.specs.Vectors.{Vector}
use Rattle.symmetry.specs.Motions.{Motion}
use Rattle.symmetry.specs.Groups.{Listing}
use Rattle.symmetry.specs.Frames.{Basis}
use Rattle.symmetry.specs.Lists.{IsHomeList}
use Rattle.slabs.specs.Slabs.{InSlabStabiliser}
use Rattle.report.specs.SlabTexts.{slab_text}
use Rattle.requests.specs.Obstacles.{IsFairFrame}

-- the text is that of the operations that map the slab to itself, point for point, in the frame
pub record IsSlabAnswer (g : Listing) (row : Vector) (basis : Basis) (low high : Fraction) (text : List ℕ) : Type 0 where
  pub frame : IsFairFrame g row basis
  pub ops : List Motion
  pub are_ops : IsHomeList g basis (InSlabStabiliser g row low high) ops
  pub is_text : text ≡ slab_text low high ops
