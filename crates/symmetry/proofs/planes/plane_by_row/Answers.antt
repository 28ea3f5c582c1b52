use Rattle.symmetry.proofs.PlaneRows.{plane_by_row}
use Rattle.symmetry.proofs.planes.plane_by_row.Goals as goal

pub returns : goal.returns
returns c = plane_by_row
