-- Greatest common divisors.
use Rattle.std.specs.Prelude.{ℕ, unsigned_abs}
use Rattle.std.specs.Int.{◌∣◌}
use Rattle.symmetry.specs.Vectors.{Vector}

-- g divides each of the three entries, and each number that divides all three divides g
pub record IsGreatestDivisor (g : ℕ) (r : Vector) : Type 0 where
  pub x : g ∣ unsigned_abs r.x
  pub y : g ∣ unsigned_abs r.y
  pub z : g ∣ unsigned_abs r.z
  pub greatest : (d : ℕ) → d ∣ unsigned_abs r.x → d ∣ unsigned_abs r.y → d ∣ unsigned_abs r.z → d ∣ g
