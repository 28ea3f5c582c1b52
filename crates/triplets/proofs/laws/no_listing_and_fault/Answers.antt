use Rattle.triplets.proofs.OneFault.{no_listing_and_fault}
use Rattle.triplets.proofs.laws.no_listing_and_fault.Goals as goal

pub returns : goal.returns
returns c = no_listing_and_fault
