-- Whole multiples, by the remainder.
use Rattle.std.proofs.Common.{◌≡◌, ◌↔◌, ℤ, pos, ◌+ℤ◌, ◌*ℤ◌, ◌≤ℤ◌, IsTrue, FitsSigned, of_z, to_z, w64, sym, ap, ◌∙◌}
use Rattle.std.specs.Prelude.{int_div, int_rem, nat_eq}
use Rattle.std.proofs.lemmas.Bool.Decides.{Decides-eqb}
use Rattle.std.proofs.lemmas.Int.{quot-rem, rem_is, to_z-of_z}
use lib.IntN.{*ℤ_comm}
use Rattle.integers.proofs.Coded.{again}
use Rattle.integers.proofs.Ring.{add_zero}
use Rattle.fractions.proofs.Multiples.{rem-multiple}

multiple_by_rest : (x d : ℤ) → int_rem x d ≡ pos 0 → x ≡ d *ℤ int_div x d
multiple_by_rest x d e =
    sym (quot-rem x d) ∙ ap (λ r. int_div x d *ℤ d +ℤ r) e ∙ add_zero (int_div x d *ℤ d) ∙ *ℤ_comm (int_div x d) d

rest_of_multiple : (x d k : ℤ) → pos 1 ≤ℤ d → x ≡ d *ℤ k → int_rem x d ≡ pos 0
rest_of_multiple x d k h e = ap (λ y. int_rem y d) e ∙ rem-multiple d k h

-- the code's test of the remainder
pub is_multiple : (x d : ℤ) → FitsSigned w64 x → FitsSigned w64 d → pos 1 ≤ℤ d
    → IsTrue (nat_eq (of_z w64 (int_rem (again x) (again d))) 0) ↔ ((k : ℤ) × (x ≡ d *ℤ k))
is_multiple x d f g h = (
  λ t. (int_div x d, multiple_by_rest x d (sym (rem_is w64 x d f g) ∙ ap (to_z w64) ((Decides-eqb _ 0).0 t))),
  λ (k, e). (Decides-eqb _ 0).1 (ap (of_z w64) ((λ i. int_rem (to_z-of_z w64 x f i) (to_z-of_z w64 d g i)) ∙ rest_of_multiple x d k h e)),
)
