-- Entry by entry.
use Rattle.std.proofs.Common.{◌≡◌, ℤ, ◌+ℤ◌, ◌-ℤ◌, ◌*ℤ◌, negsuc, ap, ◌∙◌}
use Rattle.integers.proofs.Ring.{neg_as_mul}
use Rattle.symmetry.specs.Vectors.{Vector, plus, multiple, image}
use Rattle.symmetry.proofs.VectorLaws.{vector_path}
use Rattle.motions.specs.Views.{motion_of, parts}
use Rattle.penetration.proofs.near.drift.Goals as goal

entry : (u u' w x d : ℤ) → d ≡ u' +ℤ w -ℤ x → u' ≡ u → d ≡ (u +ℤ w) +ℤ negsuc 0 *ℤ x
entry u u' w x d is same = is ∙ (λ i. same i +ℤ w +ℤ neg_as_mul x i)

pub returns-clause-is : goal.returns-clause-is
unfolding plus multiple
returns-clause-is c =
    let t = c.image-turned.ensures.is in
    let turned = parts c.image-turned.result in
    let at = parts c.args.point.now in
    let image = image (motion_of c.args.m.now).matrix at in
    let w = parts c.args.m.now.t in
    vector_path
    (entry image.x turned.x w.x at.x c.drift_along.result.0 c.drift_along.ensures.is (ap (λ (v : Vector). v.x) t))
    (entry image.y turned.y w.y at.y c.drift_along-2.result.0 c.drift_along-2.ensures.is (ap (λ (v : Vector). v.y) t))
    (entry image.z turned.z w.z at.z c.drift_along-3.result.0 c.drift_along-3.ensures.is (ap (λ (v : Vector). v.z) t))
