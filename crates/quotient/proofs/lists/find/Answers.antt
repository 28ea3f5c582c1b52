use Rattle.std.proofs.Common.{rules, tests}
use Rattle.std.proofs.iter.Serving.{serving}
use Rattle.std.proofs.lemmas.Iterator.{IsFirst-from_position, YieldsList-from_slice}
use Rattle.quotient.specs.Modulo.{modulo}
use Rattle.quotient.specs.Kind.{IsSame}
use Rattle.quotient.proofs.Positions.{first_same}
use Rattle.quotient.proofs.lists.find.Goals as goal
use Rattle.quotient.proofs.ListLaws.{All-from_map}

pub position-requires-clause-callable : goal.position-requires-clause-callable
position-requires-clause-callable g c =
    let M = g.Q.M.Motion in
    let reaches = All-from_map M.meaning (M.MovesWithin _) c.args.list.now c.requires.list in
    grind serving

pub returns : goal.returns
returns g c =
    let M = g.Q.M.Motion in
    let K = modulo M (g.Q.Quotient.IsShift c.args.q.now) in
    let list = c.args.list.now in
    let homes = g.met.Q.Quotient.homes c.args.q.now c.args.m.now in
    let P = IsSame K (M.meaning c.args.m.now) in
    let told = first_same K M.meaning (M.meaning c.args.m.now) c.position.result list
    (IsFirst-from_position _ _ c.position.result (λ n. P (M.meaning n)) (λ n. ¬ P (M.meaning n)) c.position.ensures.ran (YieldsList-from_slice list cc) (λ x q k. (homes x.now).1 (search (rules, tests, g.met.Q.M.Motion.equal))) (λ x q k. (search rules, λ s. let e = (homes x.now).0 s in search (rules, tests, g.met.Q.M.Motion.equal)))) in
    record { found = told.0; first = told.1 }
