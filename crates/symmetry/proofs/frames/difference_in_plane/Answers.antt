use Rattle.symmetry.proofs.PlaneLattice.{differs_refl, differs_sym, differs_trans, differs_in_lattice, differs_shift}
use Rattle.symmetry.proofs.frames.difference_in_plane.Goals as goal

pub returns-clause-reflexive : goal.returns-clause-reflexive
returns-clause-reflexive c = differs_refl

pub returns-clause-symmetric : goal.returns-clause-symmetric
returns-clause-symmetric c = differs_sym

pub returns-clause-transitive : goal.returns-clause-transitive
returns-clause-transitive c = differs_trans

pub returns-clause-same : goal.returns-clause-same
returns-clause-same c = differs_in_lattice

pub returns-clause-level : goal.returns-clause-level
returns-clause-level c = differs_shift
