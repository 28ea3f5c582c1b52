use Rattle.std.proofs.Common.{rules, tests}
use Rattle.std.proofs.lemmas.Iterator.{cases_from_all, YieldsList-from_slice}
use Rattle.std.specs.Prelude.{Any}
use Rattle.motions.specs.declared.layer.LayerMotion.{LayerMotion}
use Rattle.motions.specs.PlaneViews.{matrix2_of}
use Rattle.recognition.specs.Listed.{IsLike}
use Rattle.quotient.proofs.Searches.{all_are}
use Rattle.recognition.proofs.agreement.all_are_matched.Goals as goal

pub returns : goal.returns
returns c =
    let P : LayerMotion → Type 0 = λ n. Any (λ m. IsLike (matrix2_of c.args.p.now) m n) c.args.section.now in
    all_are P c.args.ops.now c.all.result
    (cases_from_all _ _ _ P (λ x. ¬ P x) c.all.ensures.ran (YieldsList-from_slice c.args.ops.now cc) (λ x q k. search (rules, tests)) (λ x q k. search (rules, tests)))
