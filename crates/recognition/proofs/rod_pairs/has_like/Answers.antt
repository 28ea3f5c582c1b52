use Rattle.std.proofs.Common.{rules, tests}
use Rattle.std.proofs.lemmas.Iterator.{cases_from_any, YieldsList-from_slice}
use Rattle.motions.specs.declared.rod.RodMotion.{RodMotion}
use Rattle.motions.specs.PlaneViews.{matrix2_of}
use Rattle.motions.specs.RodMotions.{rod_of}
use Rattle.recognition.specs.RodTests.{IsPaired}
use Rattle.quotient.proofs.Searches.{some_is}
use Rattle.recognition.proofs.rod_pairs.has_like.Goals as goal

pub returns : goal.returns
returns c =
    let P : RodMotion → Type 0 = λ n. IsPaired (matrix2_of c.args.p.now) c.args.z (rod_of c.args.m.now) (rod_of n) in
    some_is P c.args.ops.now c.any.result
    (cases_from_any _ _ _ P (λ x. ¬ P x) c.any.ensures.ran (YieldsList-from_slice c.args.ops.now cc) (λ x q k. search (rules, tests)) (λ x q k. search (rules, tests)))
