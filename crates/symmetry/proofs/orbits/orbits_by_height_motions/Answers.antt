use Rattle.symmetry.proofs.PlaneCounts.{orbit_by_motions, plane_count}
use Rattle.symmetry.proofs.orbits.orbits_by_height_motions.Goals as goal

pub returns : goal.returns
returns c = record { orbits = orbit_by_motions; planes = plane_count }
