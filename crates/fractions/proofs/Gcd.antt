-- Euclid's algorithm computes the greatest common divisor.
use Rattle.std.proofs.Common.{◌≡◌, ℕ, zero, suc, ◌%◌, ◌<◌, arith, refl}
use Rattle.std.specs.Int.{IsGcd}
use Rattle.std.proofs.lemmas.Nat.Gcd.{IsGcd-from_zero, IsGcd-from_mod, same_from_IsGcd}
use native.Mathlib.Nat.{mod-lt}
use Rattle.fractions.specs.LowestTerms.{gcd, gcd_in}

pub IsGcd-gcd_in : (steps a b : ℕ) → b < steps → IsGcd a b (gcd_in steps a b)
unfolding gcd_in
IsGcd-gcd_in zero a b h = absurd (omega arith)
IsGcd-gcd_in (suc steps) a zero h = IsGcd-from_zero a zero refl
IsGcd-gcd_in (suc steps) a (suc b) h =
    let less : a % suc b < suc b = mod-lt a {m = suc b} (omega arith) in
    IsGcd-from_mod a (suc b) (gcd_in steps (suc b) (a % suc b)) (IsGcd-gcd_in steps (suc b) (a % suc b) (omega arith))

pub IsGcd-gcd : (a b : ℕ) → IsGcd a b (gcd a b)
unfolding gcd
IsGcd-gcd a b = IsGcd-gcd_in (suc b) a b (omega arith)

-- a greatest common divisor of the last two numbers is that of the first
pub gcd_is : (a b greater less : ℕ) → ((g : ℕ) → IsGcd greater less g → IsGcd a b g) → less ≡ 0 → greater ≡ gcd a b
gcd_is a b greater less kept e = same_from_IsGcd a b greater (gcd a b) (kept greater (IsGcd-from_zero greater less e)) (IsGcd-gcd a b)
