-- Fractions of whole numbers.
use Rattle.std.specs.Prelude.{◌≡◌, ℕ, ℤ, pos, ◌-ℤ◌, ◌*ℤ◌, ◌≤ℤ◌, unsigned_abs}
use Rattle.std.specs.Int.{◌∣◌}
use Rattle.integers.specs.Size.{IsWithin}

-- the number num over den
pub record Fraction : Type 0 where
  pub num : ℤ
  pub den : ℤ

-- the number below is at least 1
abbrev pub IsFraction : Fraction → Type 0
IsFraction q = pos 1 ≤ℤ q.den

-- one number: p q' = p' q
abbrev pub SameFraction : Fraction → Fraction → Type 0
SameFraction q r = q.num *ℤ r.den ≡ r.num *ℤ q.den

-- the number is whole
abbrev pub IsWhole : Fraction → Type 0
IsWhole q = (k : ℤ) × (q.num ≡ k *ℤ q.den)

-- q - r
abbrev pub fraction_minus : Fraction → Fraction → Fraction
fraction_minus q r = record { num = q.num *ℤ r.den -ℤ r.num *ℤ q.den; den = q.den *ℤ r.den }

-- no whole number above 1 divides both
abbrev pub IsInLowestTerms : Fraction → Type 0
IsInLowestTerms q = (d : ℕ) → d ∣ unsigned_abs q.num → d ∣ unsigned_abs q.den → d ≡ 1

-- both numbers are at most the bound in size
pub record IsFractionWithin (bound : ℕ) (q : Fraction) : Type 0 where
  pub num : IsWithin bound q.num
  pub den : IsWithin bound q.den
