use Rattle.reduction.proofs.BezoutSteps.{first_turned}
use Rattle.reduction.proofs.bezout.with_first_turned.Goals as goal

pub returns-clause-is : goal.returns-clause-is
returns-clause-is c p q h = first_turned p q c.args.m.now c.requires.small h
