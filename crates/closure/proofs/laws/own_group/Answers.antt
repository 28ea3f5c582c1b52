use Rattle.closure.proofs.OwnLattice.{own_listing}
use Rattle.closure.proofs.laws.own_group.Goals as goal

pub returns : goal.returns
returns c = own_listing
