use Rattle.std.proofs.Common.{map}
use Rattle.quotient.specs.Kind.{IsSame}
use Rattle.quotient.specs.Modulo.{modulo}
use Rattle.quotient.specs.Lists.{AreFirst}
use Rattle.quotient.proofs.Firsts.{AreFirst-map, firsts_apart, firsts_in_order}
use Rattle.quotient.proofs.Parts.{firsts_are_listed, group_of_firsts}
use Rattle.quotient.proofs.laws.first_motions.Goals as goal

pub returns : goal.returns
returns g c =
    let M = g.Q.M.Motion in
    let K = modulo M (g.Q.Quotient.IsShift c.args.q.now) in
    let list = map M.meaning c.args.list.now in
    let firsts = map M.meaning c.args.firsts.now in
    let are : AreFirst (IsSame K) list firsts = AreFirst-map M.meaning c.args.list.now c.args.firsts.now c.requires in
    let monoid = g.met.Q.M.Motion.monoid in
    let shifts = g.met.Q.Quotient.shifts c.args.q.now in
    record {
      apart = firsts_apart list firsts are;
      listed = firsts_are_listed K monoid shifts list firsts are;
      ordered = firsts_in_order list firsts are;
      group = group_of_firsts K monoid shifts list firsts are;
    }
