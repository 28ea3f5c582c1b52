use Rattle.closure.proofs.OwnLattice.{has_told}
use Rattle.closure.proofs.group.Group.has.Goals as goal

pub returns : goal.returns
returns c = has_told c.args.self.now c.residues.result.now c.residues.ensures.residues _ c.lists_residue.result c.lists_residue.ensures
