use Rattle.symmetry.proofs.PlaneOrbits.{orbit_refl, orbit_sym, orbit_trans}
use Rattle.symmetry.proofs.orbits.orbits_are_classes.Goals as goal

pub returns : goal.returns
returns c = record { reflexive = orbit_refl; symmetric = orbit_sym; transitive = orbit_trans }
