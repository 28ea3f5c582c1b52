use Rattle.std.proofs.Common.{refl}
use Rattle.integers.proofs.Ring.{add_comm}
use Rattle.quotient.proofs.tests.LinesQuotient.keeps.Goals as goal

pub returns : goal.returns
returns c = (λ _ t shift. (t, shift, λ i. (add_comm t.0 c.args._m.now.across i, add_comm t.1 c.args._m.now.along i)), λ _. refl)
