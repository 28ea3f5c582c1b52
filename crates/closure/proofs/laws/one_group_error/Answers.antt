use Rattle.closure.proofs.OneError.{one_group_error}
use Rattle.closure.proofs.laws.one_group_error.Goals as goal

pub returns : goal.returns
returns c = one_group_error
