use Rattle.symmetry.specs.Groups.{FixesEveryPlane, FixesEveryPlaneByRow, InRowStabiliser, InStabiliser, SameModulo}
use Rattle.symmetry.specs.Frames.{IsAtHome}
use Rattle.symmetry.proofs.PlaneRows.{all_by_row, stabiliser_by_row}
use Rattle.symmetry.proofs.ListLaws.{list_of_same_set}
use Rattle.symmetry.proofs.lists.lists_by_rows.Goals as goal

pub returns-clause-stabiliser : goal.returns-clause-stabiliser
returns-clause-stabiliser c = λ g r f s ms group coprime high.
    list_of_same_set (SameModulo g) g.ops (IsAtHome f) (InRowStabiliser g r s) (InStabiliser g r s) ms
    (λ m. let by = stabiliser_by_row g r s m group coprime high in (by.1, by.0))

pub returns-clause-all : goal.returns-clause-all
returns-clause-all c = λ g r f ms group coprime.
    list_of_same_set (SameModulo g) g.ops (IsAtHome f) (FixesEveryPlaneByRow g r) (FixesEveryPlane g r) ms
    (λ m. let by = all_by_row g r m group coprime in (by.1, by.0))
