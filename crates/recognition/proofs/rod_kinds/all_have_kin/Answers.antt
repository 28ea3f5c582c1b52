use Rattle.std.proofs.Common.{rules, tests}
use Rattle.std.proofs.lemmas.Iterator.{cases_from_all, YieldsList-from_slice}
use Rattle.std.specs.Prelude.{Any}
use Rattle.motions.specs.declared.rod.RodMotion.{RodMotion}
use Rattle.motions.specs.RodMotions.{rod_of}
use Rattle.recognition.specs.RodKinds.{IsKin}
use Rattle.quotient.proofs.Searches.{all_are}
use Rattle.recognition.proofs.rod_kinds.all_have_kin.Goals as goal

pub returns : goal.returns
returns c =
    let P : RodMotion → Type 0 = λ m. Any (λ n. IsKin (rod_of m) (rod_of n)) c.args.other.now in
    all_are P c.args.list.now c.all.result
    (cases_from_all _ _ _ P (λ x. ¬ P x) c.all.ensures.ran (YieldsList-from_slice c.args.list.now cc) (λ x q k. search (rules, tests)) (λ x q k. search (rules, tests)))
