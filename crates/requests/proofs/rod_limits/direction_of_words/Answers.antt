use Rattle.std.proofs.Common.{rules, ◌≡◌, ◌↔◌}
use Rattle.std.specs.Prelude.{Err}
use Rattle.motions.specs.PlaneFaults.{IsPlaneFault}
use Rattle.motions.specs.declared.miller.PlaneFault.{PlaneFault}
use Rattle.requests.specs.RodViews.{direction_word}
use Rattle.requests.proofs.PlaneFaults.{fault_is}
use Rattle.requests.proofs.rod_limits.direction_of_words.Goals as goal

pub returns-clause-fault : goal.returns-clause-fault
returns-clause-fault c =
    let faults : (fault : PlaneFault) → (c.make.result ≡ Err fault) ↔ IsPlaneFault (direction_word c.args.words) fault = search rules in
    fault_is (direction_word c.args.words) c.make.result faults
