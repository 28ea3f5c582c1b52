-- Entry by entry.
use Rattle.std.proofs.Common.{◌≡◌, ℤ, pos, negsuc, ◌+ℤ◌, ◌-ℤ◌, ◌*ℤ◌, ◌*◌, ap, ◌∙◌, lit<}
use Rattle.std.specs.Prelude.{unsigned_abs}
use Rattle.fractions.specs.declared.part.TheConstants.{UNIT}
use Rattle.integers.proofs.Coded.{again, again_is}
use Rattle.integers.proofs.Ring.{neg_as_mul}
use Rattle.symmetry.specs.Vectors.{Vector, plus, multiple, image}
use Rattle.symmetry.proofs.VectorLaws.{vector_path}
use Rattle.motions.specs.Views.{motion_of, parts}
use Rattle.plane_lattice.proofs.Steps.{step_within}
use Rattle.plane_lattice.proofs.sections.drift.Goals as goal

entry : (k u u' v w x : ℤ) → again k ≡ k → x ≡ again k *ℤ (u' -ℤ v) +ℤ pos 2 *ℤ UNIT *ℤ w → u' ≡ u
    → x ≡ k *ℤ (u +ℤ negsuc 0 *ℤ v) +ℤ pos 2 *ℤ UNIT *ℤ w
entry k u u' v w x steps is same = is ∙ (λ i. steps i *ℤ (same i +ℤ neg_as_mul v i) +ℤ pos 2 *ℤ UNIT *ℤ w)

pub returns-clause-is : goal.returns-clause-is
unfolding plus multiple
returns-clause-is c =
    let t = c.image-turned.ensures.is in
    let turned = parts c.image-turned.result in
    let image = image (motion_of c.args.m.now).matrix (parts c.args.tau.now) in
    let tau = parts c.args.tau.now in
    let w = parts c.args.m.now.t in
    let steps : again c.args.steps ≡ c.args.steps = again_is c.args.steps (2 * unsigned_abs UNIT) (step_within c.args.steps c.requires.from c.requires.below) (lit< tt) in
    vector_path
    (entry c.args.steps image.x turned.x tau.x w.x c.drift_along.result.0 steps c.drift_along.ensures.is (ap (λ (v : Vector). v.x) t))
    (entry c.args.steps image.y turned.y tau.y w.y c.drift_along-2.result.0 steps c.drift_along-2.ensures.is (ap (λ (v : Vector). v.y) t))
    (entry c.args.steps image.z turned.z tau.z w.z c.drift_along-3.result.0 steps c.drift_along-3.ensures.is (ap (λ (v : Vector). v.z) t))
