use Rattle.std.proofs.Common.{rules, tests}
use Rattle.std.proofs.lemmas.Iterator.{cases_from_any, YieldsList-from_slice}
use Rattle.motions.specs.declared.layer.LayerMotion.{LayerMotion}
use Rattle.motions.specs.PlaneViews.{matrix2_of}
use Rattle.recognition.specs.Listed.{IsPaired}
use Rattle.quotient.proofs.Searches.{some_is}
use Rattle.recognition.proofs.change.has_source.Goals as goal

pub returns : goal.returns
returns c =
    let P : LayerMotion → Type 0 = λ m. IsPaired (matrix2_of c.args.p.now) c.args.x c.args.y m c.args.n.now in
    some_is P c.args.section.now c.any.result
    (cases_from_any _ _ _ P (λ x. ¬ P x) c.any.ensures.ran (YieldsList-from_slice c.args.section.now cc) (λ x q k. search (rules, tests)) (λ x q k. search (rules, tests)))
