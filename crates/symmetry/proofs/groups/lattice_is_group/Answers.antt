use Rattle.symmetry.proofs.LatticeLaws.{lattice-made, lattice-plus, lattice-minus, lattice-opposite}
use Rattle.symmetry.proofs.groups.lattice_is_group.Goals as goal

pub returns-clause-made : goal.returns-clause-made
returns-clause-made c = lattice-made

pub returns-clause-sums : goal.returns-clause-sums
returns-clause-sums c = lattice-plus

pub returns-clause-differences : goal.returns-clause-differences
returns-clause-differences c = lattice-minus

pub returns-clause-opposites : goal.returns-clause-opposites
returns-clause-opposites c = lattice-opposite
