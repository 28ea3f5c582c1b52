use Rattle.symmetry.proofs.PlaneRows.{special_by_row}
use Rattle.symmetry.proofs.planes.special_by_row.Goals as goal

pub returns : goal.returns
returns c = special_by_row
