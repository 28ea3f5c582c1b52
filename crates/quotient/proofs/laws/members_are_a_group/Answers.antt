use Rattle.std.proofs.Common.{map}
use Rattle.quotient.specs.Modulo.{modulo}
use Rattle.quotient.proofs.Members.{member_inverses, member_products}
use Rattle.quotient.proofs.laws.members_are_a_group.Goals as goal

pub returns : goal.returns
returns g c =
    let M = g.Q.M.Motion in
    let K = modulo M (g.Q.Quotient.IsShift c.args.q.now) in
    let list = map M.meaning c.args.list.now in
    let monoid = g.met.Q.M.Motion.monoid in
    let shifts = g.met.Q.Quotient.shifts c.args.q.now in
    record { products = member_products K monoid shifts list c.requires; inverses = member_inverses K monoid shifts list c.requires }
