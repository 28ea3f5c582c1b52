use Rattle.std.proofs.Common.{Contains, map}
use Rattle.quotient.specs.Modulo.{modulo}
use Rattle.quotient.specs.Lists.{IsListed}
use Rattle.quotient.proofs.Items.{All-item, all_items, more_items}
use Rattle.quotient.proofs.Positions.{first_pair}
use Rattle.quotient.proofs.check.first_open_pair.Goals as goal

pub first_open_after-requires-clause-first : goal.first_open_after-requires-clause-first
first_open_after-requires-clause-first g c =
    let M = g.Q.M.Motion in
    All-item M.meaning c.args.list.now M.IsSmall c.loop-i.i c.index-list-i.result c.requires.small c.loop-i-test.true c.index-list-i.is

pub returns-in-Some : goal.returns-in-Some
returns-in-Some g c =
    let M = g.Q.M.Motion in
    let K = modulo M (g.Q.Quotient.IsShift c.args.q.now) in
    first_pair K M.meaning c.args.list.now c.loop-i.i c.in-Some.j c.index-list-i.result c.loop-i-test.true c.index-list-i.is c.loop-i.invariant c.in-Some.ensures

pub loop-i-preserved : goal.loop-i-preserved
loop-i-preserved g c =
    let M = g.Q.M.Motion in
    let K = modulo M (g.Q.Quotient.IsShift c.args.q.now) in
    let l = map M.meaning c.args.list.now in
    more_items M.meaning c.args.list.now (λ m. (n : M.Meaning) → Contains l n → IsListed K l (M.product m n)) M.one c.loop-i.i c.index-list-i.result c.loop-i-test.true c.index-list-i.is c.loop-i.invariant
    c.in_default.ensures

pub returns : goal.returns
returns g c =
    let M = g.Q.M.Motion in
    let K = modulo M (g.Q.Quotient.IsShift c.args.q.now) in
    let l = map M.meaning c.args.list.now in
    λ m n h. all_items M.meaning c.args.list.now (λ m. (n : M.Meaning) → Contains l n → IsListed K l (M.product m n)) M.one c.loop-i.i c.loop-i-test.false c.loop-i.invariant m h n
