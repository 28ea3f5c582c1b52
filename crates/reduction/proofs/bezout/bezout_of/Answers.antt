use Rattle.reduction.proofs.BezoutSteps.{first_passed}
use Rattle.reduction.proofs.bezout.bezout_of.Goals as goal

pub returns-then-p-lt0-clause-is : goal.returns-then-p-lt0-clause-is
returns-then-p-lt0-clause-is c = c.with_first_turned.ensures.is c.args.p c.args.q (first_passed c.args.p c.args.q c.bezout_with_second-m.result c.requires.p c.requires.q c.bezout_with_second-m.ensures.is)
