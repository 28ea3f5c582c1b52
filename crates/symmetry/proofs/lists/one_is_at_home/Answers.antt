use Rattle.std.specs.Prelude.{⊤}
use Rattle.symmetry.specs.Groups.{FixesEveryPlane, InStabiliser}
use Rattle.symmetry.proofs.PlaneLattice.{differs_all, differs_stabiliser}
use Rattle.symmetry.proofs.HomeLaws.{has_one_at_home}
use Rattle.symmetry.proofs.lists.one_is_at_home.Goals as goal

pub returns-clause-motion : goal.returns-clause-motion
returns-clause-motion c = λ g r f frame m. has_one_at_home g r f frame (λ _. ⊤) (λ m n differs any. any) m tt

pub returns-clause-stabiliser : goal.returns-clause-stabiliser
returns-clause-stabiliser c = λ g r f s frame. has_one_at_home g r f frame (InStabiliser g r s) (differs_stabiliser g r s)

pub returns-clause-all : goal.returns-clause-all
returns-clause-all c = λ g r f frame. has_one_at_home g r f frame (FixesEveryPlane g r) (differs_all g r)
