use Rattle.symmetry.specs.Groups.{FixesEveryPlane, InStabiliser, SameModulo}
use Rattle.symmetry.specs.Frames.{IsAtHome}
use Rattle.symmetry.proofs.PlaneLattice.{differs_all, differs_stabiliser}
use Rattle.symmetry.proofs.HomeLaws.{has_one_at_home}
use Rattle.symmetry.proofs.ListLaws.{lists_in_plane}
use Rattle.symmetry.proofs.lists.lists_in_plane.Goals as goal

pub returns-clause-stabiliser : goal.returns-clause-stabiliser
returns-clause-stabiliser c = λ g r f s ms frame.
    lists_in_plane (SameModulo g) g.ops (IsAtHome f) (InStabiliser g r s) ms g r (has_one_at_home g r f frame (InStabiliser g r s) (differs_stabiliser g r s))

pub returns-clause-all : goal.returns-clause-all
returns-clause-all c = λ g r f ms frame.
    lists_in_plane (SameModulo g) g.ops (IsAtHome f) (FixesEveryPlane g r) ms g r (has_one_at_home g r f frame (FixesEveryPlane g r) (differs_all g r))
