use Rattle.plane_groups.proofs.FlatGroups.{derived_flat, group_flat}
use Rattle.plane_groups.proofs.laws.flat_group_of_generators.Goals as goal

pub returns-clause-listing : goal.returns-clause-listing
returns-clause-listing c generators g flat d = derived_flat generators flat g d

pub returns-clause-group : goal.returns-clause-group
returns-clause-group c generators g group flat d is = group_flat g group (derived_flat generators flat g d) is
