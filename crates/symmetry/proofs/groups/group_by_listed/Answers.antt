use Rattle.symmetry.proofs.GroupLaws.{group_by_listed}
use Rattle.symmetry.proofs.groups.group_by_listed.Goals as goal

pub returns : goal.returns
returns c = group_by_listed
