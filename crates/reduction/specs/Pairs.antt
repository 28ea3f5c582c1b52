-- Pairs of vectors of a plane, by a form.
use Rattle.std.specs.Prelude.{pos, ◌≤ℤ◌}
use Rattle.symmetry.specs.Vectors.{Matrix}
use Rattle.symmetry.specs.Frames.{Basis}
use Rattle.reduction.specs.Bounds.{largest_begun}
use Rattle.reduction.specs.Forms.{by_form}

-- a and b are so short that a + b and a - b are short too
pub record IsShortPair (g : Matrix) (f : Basis) : Type 0 where
  pub a : by_form g f.a f.a ≤ℤ pos largest_begun
  pub b : by_form g f.b f.b ≤ℤ pos largest_begun
