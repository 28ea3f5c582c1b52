use Rattle.closure.proofs.OwnLattice.{own_group}
use Rattle.closure.proofs.group.Group.ops.Goals as goal

pub returns-clause-group : goal.returns-clause-group
returns-clause-group c = own_group c.args.self.now
