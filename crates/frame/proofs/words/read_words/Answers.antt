use Rattle.std.proofs.Common.{refl, sym}
use Rattle.frame.specs.Words.{asked_by}
use Rattle.frame.proofs.words.read_words.Goals as goal

pub returns-in-None : goal.returns-in-None
unfolding asked_by
returns-in-None c = rw (sym c.in-None.ensures) refl

pub returns-in-Some : goal.returns-in-Some
unfolding asked_by
returns-in-Some c = rw (sym c.in-Some.ensures) refl
