use Rattle.symmetry.proofs.PlaneOrbits.{orbit_by_listed}
use Rattle.symmetry.proofs.orbits.orbit_by_listed.Goals as goal

pub returns : goal.returns
returns c = orbit_by_listed
