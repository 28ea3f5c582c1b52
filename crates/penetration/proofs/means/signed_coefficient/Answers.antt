-- By the sign of the motion.
use Rattle.std.proofs.Common.{◌≡◌, ℤ, pos, negsuc, ◌-ℤ◌, ◌*ℤ◌, sym, ap, ◌∙◌, subst, arith, lit<}
use Rattle.std.proofs.lemmas.Int.{ints}
use Rattle.integers.specs.Size.{IsWithin}
use Rattle.integers.proofs.Ring.{IsWithin-neg, neg_as_mul, one_mul}
use Rattle.integers.proofs.Wide.{wide, wide_is}
use Rattle.symmetry.specs.Vectors.{image, multiple}
use Rattle.motions.specs.BasisView.{basis_of}
use Rattle.motions.specs.Signs.{sign_value}
use Rattle.motions.specs.declared.motion.Sign.TheVariants.{Plus, Minus}
use Rattle.motions.specs.Views.{motion_of, parts}
use Rattle.plane_lattice.specs.Bounds.{largest_scaled}
use Rattle.penetration.specs.DirectionView.{direction_of}
use Rattle.penetration.proofs.RodSums.{with_sign, without_sign}
use Rattle.penetration.proofs.means.signed_coefficient.Goals as goal

-- a number, and less than nothing by it, as the code has them
passed : (z k : ℤ) → IsWithin largest_scaled z → z ≡ k → wide z ≡ pos 1 *ℤ k
passed z k small is = wide_is largest_scaled z (lit< tt) small ∙ is ∙ sym (one_mul k)

negated : (z : ℤ) → pos 0 -ℤ z ≡ negsuc 0 *ℤ z
negated z = omega (arith, ints)

less : (z k : ℤ) → IsWithin largest_scaled z → z ≡ k → wide (pos 0 -ℤ wide z) ≡ negsuc 0 *ℤ k
less z k small is =
    let P : ℤ → Type 0 = IsWithin largest_scaled in
    let inner : wide z ≡ z = wide_is largest_scaled z (lit< tt) small in
    let turned : IsWithin largest_scaled (negsuc 0 *ℤ z) = subst P (neg_as_mul z) (IsWithin-neg small) in
    ap (λ x. wide (pos 0 -ℤ x)) inner ∙ ap wide (negated z) ∙ wide_is largest_scaled (negsuc 0 *ℤ z) (lit< tt) turned ∙ ap (λ x. negsuc 0 *ℤ x) is

pub returns-in-Some-Plus-clause-is : goal.returns-in-Some-Plus-clause-is
returns-in-Some-Plus-clause-is c =
    let u = direction_of c.args.direction.now in
    let m = motion_of c.args.m.now in
    passed c.turned_coefficient.result _ c.turned_coefficient.ensures.small c.turned_coefficient.ensures.is
    ∙ sym (with_sign u (basis_of c.args.dual.now.basis) m (parts c.args.v.now) c.args.direction.now.coprime Plus
    (subst (λ e. image m.matrix u ≡ multiple (sign_value e) u) c.in-Some-Plus.field-0-is c.in-Some-Plus.ensures))

pub returns-in-Some-Minus-clause-is : goal.returns-in-Some-Minus-clause-is
returns-in-Some-Minus-clause-is c =
    let u = direction_of c.args.direction.now in
    let m = motion_of c.args.m.now in
    less c.turned_coefficient-in-Some-Minus.result _ c.turned_coefficient-in-Some-Minus.ensures.small c.turned_coefficient-in-Some-Minus.ensures.is
    ∙ sym (with_sign u (basis_of c.args.dual.now.basis) m (parts c.args.v.now) c.args.direction.now.coprime Minus
    (subst (λ e. image m.matrix u ≡ multiple (sign_value e) u) c.in-Some-Minus.field-0-is c.in-Some-Minus.ensures))

pub returns-in-None-clause-is : goal.returns-in-None-clause-is
returns-in-None-clause-is c =
    sym (without_sign (direction_of c.args.direction.now) (basis_of c.args.dual.now.basis) (motion_of c.args.m.now) (parts c.args.v.now) c.in-None.ensures)
