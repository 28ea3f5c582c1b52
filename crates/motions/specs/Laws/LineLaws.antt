-- Proofs about translations along a line, turned by signs. They stand here since laws that an `impl` cites rest on them.
use Rattle.std.proofs.Common.{◌≡◌, ◌^◌, ℤ, pos, ◌+ℤ◌, ◌*ℤ◌, [], ◌∷◌, ap, ◌∙◌, lit≤}
use Rattle.integers.specs.Size.{IsWithin}
use Rattle.integers.proofs.Ring.{mul_zero, zero_add, IsWithin-add, IsWithin-mul, IsWithin-more}
use Rattle.integers.proofs.Solver.{Expr.{var, neg, ◌⊕◌, ◌⊗◌}, linear, given}
use Rattle.motions.specs.declared.motion.Sign.{Sign}
use Rattle.motions.specs.declared.motion.Sign.TheVariants.{Plus, Minus}
use Rattle.motions.specs.Signs.{sign_value, sign_product}
use Rattle.motions.specs.Laws.SignLaws.{sign_value-sign_product}

-- the translations of three motions, one after the other
pub along_assoc : (a b : Sign) (x y z : ℤ)
    → sign_value b *ℤ (sign_value a *ℤ x +ℤ y) +ℤ z ≡ sign_value (sign_product b a) *ℤ x +ℤ (sign_value b *ℤ y +ℤ z)
along_assoc a b x y z =
    linear (sign_value a ∷ sign_value b ∷ sign_value (sign_product b a) ∷ x ∷ y ∷ z ∷ [])
    (var 1 ⊗ (var 0 ⊗ var 3 ⊕ var 4) ⊕ var 5) (var 2 ⊗ var 3 ⊕ (var 1 ⊗ var 4 ⊕ var 5))
    (given (neg (var 3)) (var 2) (var 1 ⊗ var 0) ∷ []) tt (sign_value-sign_product b a, tt)

pub along_from_zero : (a : Sign) (x : ℤ) → sign_value a *ℤ pos 0 +ℤ x ≡ x
along_from_zero a x = ap (λ y. y +ℤ x) (mul_zero (sign_value a)) ∙ zero_add x

sign_within : (a : Sign) → IsWithin 1 (sign_value a)
sign_within Plus = record { most = lit≤ tt }
sign_within Minus = record { most = lit≤ tt }

-- of two small translations
pub along_within : (a : Sign) {x y : ℤ} → IsWithin (2 ^ 40) x → IsWithin (2 ^ 40) y → IsWithin (2 ^ 52) (sign_value a *ℤ x +ℤ y)
along_within a h k = IsWithin-more (IsWithin-add (IsWithin-mul (sign_within a) h) k) (lit≤ tt)

pub nothing_within : IsWithin 0 (pos 0)
nothing_within = record { most = lit≤ tt }
