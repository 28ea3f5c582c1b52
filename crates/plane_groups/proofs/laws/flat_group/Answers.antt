use Rattle.plane_groups.proofs.FlatGroups.{group_flat, listing_flat}
use Rattle.plane_groups.proofs.laws.flat_group.Goals as goal

pub returns-clause-listing : goal.returns-clause-listing
returns-clause-listing c = listing_flat

pub returns-clause-group : goal.returns-clause-group
returns-clause-group c g group flat is = group_flat g group (listing_flat g flat) is
