use Rattle.std.proofs.Common.{map, rules, tests}
use Rattle.std.proofs.iter.Serving.{serving}
use Rattle.std.proofs.lemmas.Iterator.{IsFirst-from_position, YieldsList-from_slice}
use Rattle.quotient.specs.Modulo.{modulo}
use Rattle.quotient.specs.Lists.{IsListed}
use Rattle.quotient.proofs.Positions.{first_without}
use Rattle.quotient.proofs.check.first_open_after.Goals as goal
use Rattle.quotient.proofs.ListLaws.{All-from_map}

pub position-requires-clause-callable : goal.position-requires-clause-callable
position-requires-clause-callable g c =
    let M = g.Q.M.Motion in
    let small = All-from_map M.meaning M.IsSmall c.args.list.now c.requires.small in
    grind serving

pub returns : goal.returns
returns g c =
    let M = g.Q.M.Motion in
    let K = modulo M (g.Q.Quotient.IsShift c.args.q.now) in
    let list = c.args.list.now in
    let P = λ (n : M.Meaning). IsListed K (map M.meaning list) (M.product (M.meaning c.args.m.now) n) in
    first_without K M.meaning P list c.position.result
    (IsFirst-from_position _ _ c.position.result (λ n. ¬ P (M.meaning n)) (λ n. P (M.meaning n)) c.position.ensures.ran (YieldsList-from_slice list cc) (λ x q k. search (rules, tests)) (λ x q k. search (rules, tests)))
    c.map.result (search rules)
