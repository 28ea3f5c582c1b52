use Rattle.std.proofs.Common.{rules, ◌≡◌, ◌↔◌}
use Rattle.std.specs.Prelude.{Err}
use Rattle.motions.specs.PlaneFaults.{IsPlaneFault}
use Rattle.motions.specs.declared.miller.PlaneFault.{PlaneFault}
use Rattle.requests.specs.Views.{indices_of}
use Rattle.requests.proofs.PlaneFaults.{fault_is}
use Rattle.requests.proofs.limits.plane_of_words.Goals as goal

pub returns-clause-fault : goal.returns-clause-fault
returns-clause-fault c =
    let faults : (fault : PlaneFault) → (c.make.result ≡ Err fault) ↔ IsPlaneFault ((indices_of c.args.words).row) fault = search rules in
    fault_is (indices_of c.args.words).row c.make.result faults
