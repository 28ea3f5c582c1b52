use Rattle.std.proofs.Common.{rules, tests}
use Rattle.std.proofs.iter.Serving.{serving}
use Rattle.std.proofs.lemmas.Iterator.{IsFirst-from_position, YieldsList-from_slice}
use Rattle.quotient.specs.Modulo.{modulo}
use Rattle.quotient.specs.Kind.{Keeps}
use Rattle.quotient.proofs.Positions.{first_without}
use Rattle.quotient.proofs.check.first_moving_shifts.Goals as goal
use Rattle.quotient.proofs.ListLaws.{All-from_map}

pub position-requires-clause-callable : goal.position-requires-clause-callable
position-requires-clause-callable g c =
    let M = g.Q.M.Motion in
    let small = All-from_map M.meaning M.IsSmall c.args.list.now c.requires in
    grind serving

pub returns : goal.returns
returns g c =
    let M = g.Q.M.Motion in
    let K = modulo M (g.Q.Quotient.IsShift c.args.q.now) in
    let first = IsFirst-from_position _ _ c.position.result (λ n. ¬ Keeps K (M.meaning n)) (λ n. Keeps K (M.meaning n)) c.position.ensures.ran (YieldsList-from_slice c.args.list.now cc) (λ x q k. search (rules, tests)) (λ x q k. search (rules, tests)) in
    first_without K M.meaning (Keeps K) c.args.list.now c.position.result first c.map.result (search rules)
