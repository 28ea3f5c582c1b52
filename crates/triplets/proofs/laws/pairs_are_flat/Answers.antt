use Rattle.triplets.proofs.FlatTexts.{pairs_are_flat}
use Rattle.triplets.proofs.laws.pairs_are_flat.Goals as goal

pub returns : goal.returns
returns c = pairs_are_flat
