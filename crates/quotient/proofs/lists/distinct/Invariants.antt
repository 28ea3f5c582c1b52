use Rattle.std.proofs.Common.{unsigned_abs}
use Rattle.quotient.specs.Modulo.{modulo}
use Rattle.quotient.specs.Lists.{AreHomes}
use Rattle.quotient.proofs.Kept.{KeepsFirst}
use Rattle.quotient.proofs.lists.distinct.Given as goal

-- of the motions so far the first ones are kept, and their homes
abbrev pub invariant-loop-m : goal.invariant-loop-m
invariant-loop-m g l = record {
  first :
      let M = g.Q.M.Motion in
      let K = modulo M (g.Q.Quotient.IsShift l.q) in
      KeepsFirst K M.meaning (M.MovesWithin (unsigned_abs g.Q.Quotient.REACH)) l.list l.m-index l.kept.items;
  homes : AreHomes g.Q.M.Motion.meaning (g.Q.Quotient.home_of l.q) l.kept.items l.homes.items;
}
