use Rattle.triplets.proofs.FirstKept.{one_kept}
use Rattle.triplets.proofs.laws.one_kept.Goals as goal

pub returns : goal.returns
returns c = one_kept
