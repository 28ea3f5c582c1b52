-- Motions at home, conjugated by a multiple of tau and brought home.
use Rattle.std.specs.Prelude.{◌≡◌, ℤ, pos, ◌*ℤ◌}
use Rattle.symmetry.specs.Vectors.{Vector, multiple, opposite, plus, row_times}
use Rattle.symmetry.specs.Motions.{Motion}
use Rattle.symmetry.specs.Frames.{Basis}

-- one that keeps the row stays, and one that turns it has 2 k tau more
pub record IsMoved (r : Vector) (f : Basis) (k : ℤ) (m n : Motion) : Type 0 where
  pub kept : row_times r m.matrix ≡ r → n ≡ m
  pub turned : row_times r m.matrix ≡ opposite r
      → n ≡ record { matrix = m.matrix; translation = plus m.translation (multiple (pos 2 *ℤ k) f.tau) }
