-- multiples of a number, by the remainder
use Rattle.std.proofs.Common.{◌≡◌, ℕ, suc, ◌*◌, ◌/◌, ◌%◌, ◌<◌, ℤ, pos, negsuc, neg_ℤ, ◌∙◌, ap, sym, arith, IsTrue, nat_eq}
use Rattle.std.specs.Prelude.{◌↔◌, unsigned_abs}
use Rattle.std.proofs.lemmas.Bool.Decides.{Decides-eqb}
use Rattle.std.proofs.lemmas.Int.{ints, unsigned_abs-mul}
use Rattle.std.proofs.Math.Nat.{mul-mod_left, mul_comm}
use Rattle.integers.proofs.Ring.{mul_neg}
use Rattle.motions.specs.Rationals.{IsMultiple}

from_rest : (n : ℕ) (z : ℤ) → 0 < n → unsigned_abs z % n ≡ 0 → IsMultiple (pos n) z
from_rest n (pos a) h e = (pos (a / n), omega (arith, ints))
from_rest n (negsuc a) h e =
    let q = suc a / n in
    let f : suc a ≡ n * q = omega arith in
    (neg_ℤ (pos q), omega (arith, ints, f, mul_neg (pos n) (pos q)))

pub to_rest : (n : ℕ) (z : ℤ) → 0 < n → IsMultiple (pos n) z → unsigned_abs z % n ≡ 0
to_rest n z h (k, e) = ap (λ x. unsigned_abs x % n) e ∙ ap (λ x. x % n) (unsigned_abs-mul (pos n) k) ∙ ap (λ x. x % n) (mul_comm n (unsigned_abs k)) ∙ mul-mod_left (unsigned_abs k) n

pub multiple_is : (n : ℕ) (z : ℤ) → 0 < n → (unsigned_abs z % n ≡ 0) ↔ IsMultiple (pos n) z
multiple_is n z h = (from_rest n z h, to_rest n z h)

-- the remainder of the size tells whether a number is a multiple
pub multiple_by_rest : (n : ℕ) (z : ℤ) (size : ℕ) → 0 < n → size ≡ unsigned_abs z → IsTrue (nat_eq (size % n) 0) ↔ IsMultiple (pos n) z
multiple_by_rest n z size h e =
    let e' = ap (λ x. x % n) e in
    let test = Decides-eqb (size % n) 0 in
    (λ t. from_rest n z h (sym e' ∙ test.0 t), λ m. test.1 (e' ∙ to_rest n z h m))
