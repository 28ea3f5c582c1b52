use Rattle.reduction.proofs.BezoutSteps.{second_passed}
use Rattle.reduction.proofs.bezout.bezout_with_second.Goals as goal

pub returns-then-q-lt0-clause-is : goal.returns-then-q-lt0-clause-is
returns-then-q-lt0-clause-is c = c.with_second_turned.ensures.is c.args.p c.args.q (second_passed c.args.p c.args.q c.bezout_from_zero-m.result c.requires.p c.requires.q c.bezout_from_zero-m.ensures.is)
