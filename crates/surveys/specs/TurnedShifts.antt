-- The numbers (hkl).w of the operations that turn the row, modulo the period.
use Rattle.std.specs.Prelude.{ℤ, pos, ◌≤ℤ◌, ◌<ℤ◌, List}
use Rattle.symmetry.specs.Vectors.{Vector}
use Rattle.symmetry.specs.Motions.{Motion}
use Rattle.scanning.specs.Levels.{IsTurned}

-- from 0 to below d, and whole periods from that of a listed motion that turns the row
pub record IsTurnedShift (r : Vector) (d : ℤ) (ops : List Motion) (t : ℤ) : Type 0 where
  pub from : pos 0 ≤ℤ t
  pub below : t <ℤ d
  pub turned : IsTurned r d ops t
