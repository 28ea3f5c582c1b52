use Rattle.line_scans.proofs.PlaneBridges.{block_matrix_flat, on_plane, plane_by_line}
use Rattle.plane_motions.specs.PlaneMotions.{plane_block}
use Rattle.line_scans.proofs.laws.line_as_plane.Goals as goal

pub returns : goal.returns
returns c = record { points = on_plane; motions = λ r s m. plane_by_line r s (plane_block m) (block_matrix_flat m) }
