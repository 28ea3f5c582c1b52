use Rattle.integers.proofs.Coded.{again}
use Rattle.motions.specs.Views.{vector_of}
use Rattle.reduction.proofs.BezoutSteps.{kept_again}
use Rattle.reduction.proofs.CombinedPassed.{combined_is}
use Rattle.reduction.proofs.adapted.above_plane.Goals as goal

pub returns : goal.returns
returns c = record {
  is = combined_is c.args.m.now.x (again c.args.m.now.y) (c.args.m.now.y) c.requires.numbers.x (kept_again c.args.m.now.y c.requires.numbers.y) (vector_of c.args.u.now) (vector_of c.args.v.now) c.entry.result c.entry-2.result c.entry-3.result c.requires.u c.requires.v
      c.entry.ensures.small c.entry-2.ensures.small c.entry-3.ensures.small c.entry.ensures.is c.entry-2.ensures.is c.entry-3.ensures.is;
}
