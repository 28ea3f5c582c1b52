use Rattle.plane_groups.proofs.FlatGroups.{listing_of_flat}
use Rattle.plane_groups.proofs.laws.listing_of_flat_group.Goals as goal

pub returns : goal.returns
returns c = listing_of_flat
