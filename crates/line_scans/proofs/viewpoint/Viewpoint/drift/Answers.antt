-- Entry by entry.
use Rattle.std.proofs.Common.{◌≡◌, ℤ, pos, negsuc, ◌+ℤ◌, ◌-ℤ◌, ◌*ℤ◌, ap, ◌∙◌}
use Rattle.fractions.specs.declared.part.TheConstants.{UNIT}
use Rattle.integers.proofs.Ring.{neg_as_mul}
use Rattle.symmetry.specs.Vectors.{Vector, plus, multiple, image}
use Rattle.symmetry.proofs.VectorLaws.{vector_path}
use Rattle.motions.specs.Views.{motion_of, parts}
use Rattle.line_scans.proofs.viewpoint.Viewpoint.drift.Goals as goal

entry : (k u u' v w x : ℤ) → x ≡ k *ℤ (u' -ℤ v) +ℤ pos 2 *ℤ UNIT *ℤ w → u' ≡ u
    → x ≡ k *ℤ (u +ℤ negsuc 0 *ℤ v) +ℤ pos 2 *ℤ UNIT *ℤ w
entry k u u' v w x is same = is ∙ (λ i. k *ℤ (same i +ℤ neg_as_mul v i) +ℤ pos 2 *ℤ UNIT *ℤ w)

pub returns-clause-is : goal.returns-clause-is
unfolding plus multiple
returns-clause-is c =
    let t = c.image-turned.ensures.is in
    let turned = parts c.image-turned.result in
    let tau = parts c.args.self.now.frame.tau in
    let image = image (motion_of c.args.m.now).matrix tau in
    let w = parts c.args.m.now.t in
    let k = c.args.self.now.step in
    vector_path
    (entry k image.x turned.x tau.x w.x c.drift_along.result.0 c.drift_along.ensures.is (ap (λ (v : Vector). v.x) t))
    (entry k image.y turned.y tau.y w.y c.drift_along-2.result.0 c.drift_along-2.ensures.is (ap (λ (v : Vector). v.y) t))
    (entry k image.z turned.z tau.z w.z c.drift_along-3.result.0 c.drift_along-3.ensures.is (ap (λ (v : Vector). v.z) t))
