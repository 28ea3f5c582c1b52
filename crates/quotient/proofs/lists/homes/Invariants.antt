use Rattle.std.proofs.Common.{take}
use Rattle.quotient.specs.Lists.{AreHomes}
use Rattle.quotient.proofs.lists.homes.Given as goal

-- the homes of the motions so far
abbrev pub invariant-loop-m : goal.invariant-loop-m
invariant-loop-m g l = AreHomes g.Q.M.Motion.meaning (g.Q.Quotient.home_of l.q) (take l.m-index l.list) l.homes.items
