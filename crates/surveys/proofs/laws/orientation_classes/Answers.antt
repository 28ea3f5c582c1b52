use Rattle.surveys.proofs.Equivalence.{equivalent_back, equivalent_on, equivalent_to_itself}
use Rattle.surveys.proofs.laws.orientation_classes.Goals as goal

pub returns-clause-reflexive : goal.returns-clause-reflexive
returns-clause-reflexive c = λ g r group. equivalent_to_itself g group r

pub returns-clause-symmetric : goal.returns-clause-symmetric
returns-clause-symmetric c = λ g r s group. equivalent_back g group r s

pub returns-clause-transitive : goal.returns-clause-transitive
returns-clause-transitive c = λ g r s t group. equivalent_on g group r s t
