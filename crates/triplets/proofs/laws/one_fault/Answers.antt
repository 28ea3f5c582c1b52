use Rattle.triplets.proofs.OneFault.{one_fault}
use Rattle.triplets.proofs.laws.one_fault.Goals as goal

pub returns : goal.returns
returns c = one_fault
