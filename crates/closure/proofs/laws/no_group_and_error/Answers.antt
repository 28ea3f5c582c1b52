use Rattle.closure.proofs.OneError.{no_group_and_error}
use Rattle.closure.proofs.laws.no_group_and_error.Goals as goal

pub returns : goal.returns
returns c = no_group_and_error
