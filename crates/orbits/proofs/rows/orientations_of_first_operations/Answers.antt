use Rattle.orbits.proofs.FirstRows.{orientations_of_firsts}
use Rattle.orbits.proofs.rows.orientations_of_first_operations.Goals as goal

pub returns : goal.returns
returns c = orientations_of_firsts
