use Rattle.symmetry.proofs.PlaneRows.{stabiliser_by_row, all_by_row}
use Rattle.symmetry.proofs.planes.stabiliser_by_rows.Goals as goal

pub returns-clause-each : goal.returns-clause-each
returns-clause-each c = stabiliser_by_row

pub returns-clause-every : goal.returns-clause-every
returns-clause-every c = all_by_row
