use Rattle.reduction.proofs.BezoutSteps.{second_turned}
use Rattle.reduction.proofs.bezout.with_second_turned.Goals as goal

pub returns-clause-is : goal.returns-clause-is
returns-clause-is c p q h = second_turned p q c.args.m.now c.requires.small h
