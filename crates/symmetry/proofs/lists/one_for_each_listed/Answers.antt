use Rattle.symmetry.proofs.HomeLaws.{stabiliser_home_once}
use Rattle.symmetry.proofs.lists.one_for_each_listed.Goals as goal

pub returns : goal.returns
returns c = stabiliser_home_once
