-- The lowest terms of a fraction.
use Rattle.std.specs.Prelude.{ℕ, zero, suc, ◌%◌, ◌≤◌, ℤ, pos, negsuc, neg_ℤ, int_div, unsigned_abs}
use Rattle.fractions.specs.Fraction.{Fraction, IsFraction, SameFraction, IsInLowestTerms}

-- Euclid's remainders, of which there are no more than the steps
unfoldable pub gcd_in : ℕ → ℕ → ℕ → ℕ
gcd_in zero a b = a
gcd_in (suc steps) a zero = a
gcd_in (suc steps) a (suc b) = gcd_in steps (suc b) (a % suc b)

-- the greatest common divisor
unfoldable pub gcd : ℕ → ℕ → ℕ
gcd a b = gcd_in (suc b) a b

-- that of two whole numbers, with the sign of the second
unfoldable pub signed_gcd : ℤ → ℤ → ℤ
signed_gcd num (pos den) = pos (gcd (unsigned_abs num) den)
signed_gcd num (negsuc den) = neg_ℤ (pos (gcd (unsigned_abs num) (suc den)))

-- num over den, both divided by it: the sign goes to the numerator
unfoldable pub lowest_terms : ℤ → ℤ → Fraction
lowest_terms num den = record { num = int_div num (signed_gcd num den); den = int_div den (signed_gcd num den) }

-- q is the number num over den in lowest terms
pub record IsLowestForm (q : Fraction) (num den : ℤ) : Type 0 where
  pub positive : IsFraction q
  pub lowest : IsInLowestTerms q
  pub same : SameFraction q (record { num = num; den = den })

-- neither number of q is larger in size than that of num over den
pub record IsNoLarger (q : Fraction) (num den : ℤ) : Type 0 where
  pub num_size : unsigned_abs q.num ≤ unsigned_abs num
  pub den_size : unsigned_abs q.den ≤ unsigned_abs den
