-- Entry by entry.
use Rattle.std.proofs.Common.{◌≡◌, ◌*◌, ℤ, pos, negsuc, ◌+ℤ◌, ◌*ℤ◌, length, map, ap, ◌∙◌, lit<}
use Rattle.integers.proofs.Wide.{wide, wide_is}
use Rattle.fractions.specs.declared.part.TheConstants.{UNIT}
use Rattle.symmetry.specs.Vectors.{plus, multiple}
use Rattle.motions.specs.BasisView.{basis_of}
use Rattle.motions.specs.Views.{motion_of, parts}
use Rattle.plane_lattice.specs.Bounds.{largest_scaled}
use Rattle.plane_lattice.specs.Coordinates.{volume}
use Rattle.penetration.specs.DirectionView.{direction_of}
use Rattle.penetration.specs.RodFrames.{total_along}
use Rattle.penetration.specs.RodOperations.{rod_ops}
use Rattle.penetration.proofs.RodSums.{same_ratio}
use Rattle.penetration.proofs.means.levelled.Goals as goal

entry : (d t n s v c : ℤ) → wide d ≡ n → wide t ≡ s → wide d *ℤ v +ℤ negsuc 0 *ℤ (wide t *ℤ c) ≡ n *ℤ v +ℤ negsuc 0 *ℤ (s *ℤ c)
entry d t n s v c e h = λ i. e i *ℤ v +ℤ negsuc 0 *ℤ (h i *ℤ c)

pub returns : goal.returns
unfolding plus multiple
returns c =
    let u = direction_of c.args.direction.now in
    let f = basis_of c.args.dual.now.basis in
    let ms = rod_ops u (map motion_of c.args.ops.now) in
    let v = parts c.args.v.now in
    let dual = c.args.dual.now in
    let d = c.denominator-den.result in
    let t = c.rod_total-total.result in
    let den : wide d ≡ pos (length ms) *ℤ volume f =
    wide_is (192 * largest_scaled) d (lit< tt) c.denominator-den.ensures.small ∙ c.denominator-den.ensures.is
    ∙ (λ i. pos (c.count_rods.ensures.is i) *ℤ (wide_is largest_scaled dual.volume (lit< tt) dual.volume_small ∙ dual.volume_is) i) in
    let total : wide t ≡ total_along u f ms v = wide_is (192 * largest_scaled) t (lit< tt) c.rod_total-total.ensures.small ∙ c.rod_total-total.ensures.is in
    record {
      x = same_ratio c.level_entry.result.num c.level_entry.result.den (entry d t _ _ v.x f.tau.x den total) (ap (λ z. UNIT *ℤ z) den) c.level_entry.ensures;
      y = same_ratio c.level_entry-2.result.num c.level_entry-2.result.den (entry d t _ _ v.y f.tau.y den total) (ap (λ z. UNIT *ℤ z) den) c.level_entry-2.ensures;
      z = same_ratio c.level_entry-3.result.num c.level_entry-3.result.den (entry d t _ _ v.z f.tau.z den total) (ap (λ z. UNIT *ℤ z) den) c.level_entry-3.ensures;
    }
