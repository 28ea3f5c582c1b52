use Rattle.symmetry.specs.Groups.{FixesEveryPlane, InStabiliser, SameModulo}
use Rattle.symmetry.specs.Frames.{IsAtHome}
use Rattle.symmetry.proofs.ListLaws.{lists_agree}
use Rattle.symmetry.proofs.lists.lists_agree.Goals as goal

pub returns-clause-stabiliser : goal.returns-clause-stabiliser
returns-clause-stabiliser c = λ g r f s. lists_agree (SameModulo g) g.ops (IsAtHome f) (InStabiliser g r s)

pub returns-clause-all : goal.returns-clause-all
returns-clause-all c = λ g r f. lists_agree (SameModulo g) g.ops (IsAtHome f) (FixesEveryPlane g r)
