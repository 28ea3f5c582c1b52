use Rattle.std.proofs.Common.{refl, sym}
use Rattle.command.specs.Requests.{asked_by}
use Rattle.command.proofs.read_words.read_words.Goals as goal

pub returns-in-None-clause-is : goal.returns-in-None-clause-is
unfolding asked_by
returns-in-None-clause-is c = rw (sym c.in-None.ensures.is) refl

pub returns-in-Some-clause-is : goal.returns-in-Some-clause-is
unfolding asked_by
returns-in-Some-clause-is c = rw (sym c.in-Some.ensures.is) refl
