-- The laws of signs. They stand here since an `impl` cites them.
use Rattle.std.proofs.Common.{◌≡◌, ◌↔◌, inl, inr, Option, Some, IsTrue, refl, sym, ◌∙◌, ◌*ℤ◌}
use Rattle.symmetry.specs.HeightMotions.{IsSign}
use Rattle.motions.specs.declared.motion.Sign.{Sign}
use Rattle.motions.specs.declared.motion.Sign.TheVariants.{Plus, Minus}
use Rattle.motions.specs.Signs.{same_sign, sign_product, sign_value}

pub sign_product_assoc : (d e f : Sign) → sign_product (sign_product d e) f ≡ sign_product d (sign_product e f)
sign_product_assoc Plus e f = refl
sign_product_assoc Minus Plus f = refl
sign_product_assoc Minus Minus Plus = refl
sign_product_assoc Minus Minus Minus = refl

pub plus-sign_product : (e : Sign) → sign_product Plus e ≡ e
plus-sign_product e = refl

pub sign_product-plus : (e : Sign) → sign_product e Plus ≡ e
sign_product-plus Plus = refl
sign_product-plus Minus = refl

pub sign_product_comm : (d e : Sign) → sign_product d e ≡ sign_product e d
sign_product_comm Plus Plus = refl
sign_product_comm Plus Minus = refl
sign_product_comm Minus Plus = refl
sign_product_comm Minus Minus = refl

-- a sign undoes itself
pub sign_product-same : (e : Sign) → sign_product e e ≡ Plus
sign_product-same Plus = refl
sign_product-same Minus = refl

pub sign_value-sign_product : (d e : Sign) → sign_value (sign_product d e) ≡ sign_value d *ℤ sign_value e
sign_value-sign_product Plus Plus = refl
sign_value-sign_product Plus Minus = refl
sign_value-sign_product Minus Plus = refl
sign_value-sign_product Minus Minus = refl

-- the value of a sign is a sign
pub sign_is_sign : (e : Sign) → IsSign (sign_value e)
sign_is_sign Plus = inl refl
sign_is_sign Minus = inr refl

-- nothing has both signs
pub not_both_signs : (o : Option Sign) → o ≡ Some Plus → o ≡ Some Minus → ⊥
not_both_signs o p q = let e : Some Plus ≡ Some Minus = sym p ∙ q in cc e

pub same_sign-is : (d e : Sign) → IsTrue (same_sign d e) ↔ (d ≡ e)
same_sign-is Plus Plus = (λ t. refl, λ e. refl)
same_sign-is Plus Minus = (λ t. cc, λ e. cc)
same_sign-is Minus Plus = (λ t. cc, λ e. cc)
same_sign-is Minus Minus = (λ t. refl, λ e. refl)
