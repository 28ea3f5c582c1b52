use Rattle.closure.proofs.OwnLattice.{own_fine, own_lattice}
use Rattle.closure.proofs.group.Group.lattice.Goals as goal

pub returns-clause-same : goal.returns-clause-same
returns-clause-same c = own_lattice c.args.self.now

pub returns-clause-fine : goal.returns-clause-fine
returns-clause-fine c = own_fine c.args.self.now
