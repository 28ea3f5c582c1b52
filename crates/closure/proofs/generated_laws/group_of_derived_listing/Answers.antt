use Rattle.closure.proofs.OneGroup.{derived_alike, group_of_derived}
use Rattle.closure.proofs.generated_laws.group_of_derived_listing.Goals as goal

pub returns-clause-alike : goal.returns-clause-alike
returns-clause-alike c = derived_alike

pub returns-clause-group : goal.returns-clause-group
returns-clause-group c = group_of_derived
