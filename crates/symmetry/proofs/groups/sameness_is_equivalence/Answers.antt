use Rattle.symmetry.proofs.LatticeLaws.{same_refl, same_sym, same_trans}
use Rattle.symmetry.proofs.groups.sameness_is_equivalence.Goals as goal

pub returns-clause-reflexive : goal.returns-clause-reflexive
returns-clause-reflexive c = same_refl

pub returns-clause-symmetric : goal.returns-clause-symmetric
returns-clause-symmetric c = same_sym

pub returns-clause-transitive : goal.returns-clause-transitive
returns-clause-transitive c = same_trans
