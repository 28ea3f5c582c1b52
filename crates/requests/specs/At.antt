-- The operations that map one plane to itself.
use Rattle.std.specs.Prelude.{◌≡◌, ℕ, List}
use Rattle.fractions.specs.Fraction.{Fraction}
use Rattle.symmetry.specs.Vectors.{Vector}
use Rattle.symmetry.specs.Motions.{Motion}
use Rattle.symmetry.specs.Groups.{Listing, InStabiliser}
use Rattle.symmetry.specs.Frames.{Basis}
use Rattle.symmetry.specs.Lists.{IsHomeList}
use Rattle.report.specs.Texts.{at_text}
use Rattle.requests.specs.Obstacles.{IsFairFrame}

-- the text is that of the operations that map the plane to itself, in the frame
pub record IsHeightAnswer (g : Listing) (row : Vector) (basis : Basis) (s : Fraction) (text : List ℕ) : Type 0 where
  pub frame : IsFairFrame g row basis
  pub ops : List Motion
  pub are_ops : IsHomeList g basis (InStabiliser g row s) ops
  pub is_text : text ≡ at_text s ops
