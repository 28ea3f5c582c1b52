use Rattle.triplets.proofs.OneFault.{one_flag, one_listing}
use Rattle.triplets.proofs.laws.one_listing.Goals as goal

pub returns-clause-generated : goal.returns-clause-generated
returns-clause-generated c = one_flag

pub returns-clause-listing : goal.returns-clause-listing
returns-clause-listing c = one_listing
