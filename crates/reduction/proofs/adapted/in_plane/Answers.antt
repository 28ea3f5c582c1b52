use Rattle.std.proofs.Common.{pos, ◌-ℤ◌}
use Rattle.integers.proofs.Coded.{again}
use Rattle.motions.specs.Views.{vector_of}
use Rattle.reduction.proofs.BezoutSteps.{neg_again}
use Rattle.reduction.proofs.CombinedPassed.{combined_is, neg_again_small}
use Rattle.reduction.proofs.adapted.in_plane.Goals as goal

pub entry-requires-3-clause-y : goal.entry-requires-3-clause-y
entry-requires-3-clause-y c = neg_again_small c.args.m.now.p c.requires.numbers.p

pub returns : goal.returns
returns c = record {
  is = combined_is c.args.m.now.q (again (pos 0 -ℤ again c.args.m.now.p)) (pos 0 -ℤ c.args.m.now.p) c.requires.numbers.q (neg_again c.args.m.now.p c.requires.numbers.p) (vector_of c.args.u.now) (vector_of c.args.v.now) c.entry.result c.entry-2.result c.entry-3.result c.requires.u c.requires.v
      c.entry.ensures.small c.entry-2.ensures.small c.entry-3.ensures.small c.entry.ensures.is c.entry-2.ensures.is c.entry-3.ensures.is;
}
