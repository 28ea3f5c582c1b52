-- The products fit, and so does their difference.
use Rattle.std.proofs.Common.{◌≡◌, ◌*◌, ◌+◌, ℕ, ℤ, negsuc, ◌+ℤ◌, ◌-ℤ◌, ◌*ℤ◌, unsigned_abs, ap, ◌∙◌, lit<, lit≤}
use Rattle.fractions.specs.declared.part.TheConstants.{UNIT}
use Rattle.integers.specs.Size.{IsWithin}
use Rattle.integers.proofs.Ring.{IsWithin-mul, IsWithin-sub, neg_as_mul}
use Rattle.integers.proofs.Wide.{wide, wide_is}
use Rattle.plane_lattice.specs.Bounds.{largest_entry, largest_scaled}
use Rattle.penetration.proofs.RodSums.{same_ratio}
use Rattle.penetration.proofs.means.level_entry.Goals as goal

abbrev most : ℕ
most = 192 * largest_scaled * largest_entry

difference : (x y d t v c : ℤ) → IsWithin most x → IsWithin most y → x ≡ wide d *ℤ v → y ≡ wide t *ℤ c → IsWithin (192 * largest_scaled) d → IsWithin (192 * largest_scaled) t
    → wide (wide x -ℤ wide y) ≡ d *ℤ v +ℤ negsuc 0 *ℤ (t *ℤ c)
difference x y d t v c h k is is' hd ht =
    (λ i. wide (wide_is most x (lit< tt) h i -ℤ wide_is most y (lit< tt) k i))
    ∙ wide_is (most + most) (x -ℤ y) (lit< tt) (IsWithin-sub h k)
    ∙ (λ i. (is ∙ ap (λ z. z *ℤ v) (wide_is (192 * largest_scaled) d (lit< tt) hd)) i -ℤ (is' ∙ ap (λ z. z *ℤ c) (wide_is (192 * largest_scaled) t (lit< tt) ht)) i)
    ∙ ap (λ z. d *ℤ v +ℤ z) (neg_as_mul (t *ℤ c))

below : (d : ℤ) → IsWithin (192 * largest_scaled) d → wide (UNIT *ℤ wide d) ≡ UNIT *ℤ d
below d h =
    let unit : IsWithin (unsigned_abs UNIT) UNIT = record { most = lit≤ tt } in
    ap (λ z. wide (UNIT *ℤ z)) (wide_is (192 * largest_scaled) d (lit< tt) h)
    ∙ wide_is (unsigned_abs UNIT * (192 * largest_scaled)) (UNIT *ℤ d) (lit< tt) (IsWithin-mul unit h)

pub returns : goal.returns
returns c =
    same_ratio c.ratio_of.result.num c.ratio_of.result.den
    (difference c.wide_multiple.result c.wide_multiple-2.result c.args.den c.args.total c.args.v.0 c.args.axis.0
    c.wide_multiple.ensures.small c.wide_multiple-2.ensures.small c.wide_multiple.ensures.is c.wide_multiple-2.ensures.is c.requires.den c.requires.total)
    (below c.args.den c.requires.den) c.ratio_of.ensures
