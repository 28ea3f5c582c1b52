use Rattle.symmetry.proofs.Alike.{alike_sym}
use Rattle.symmetry.proofs.AlikeScans.{numbers_from, orbit_from, orbit_to, planes_from}
use Rattle.symmetry.proofs.listings.alike_orbits.Goals as goal

pub returns : goal.returns
returns c = record {
  orbit = λ g h alike r s t. (orbit_to g h alike r s t, orbit_from g h alike r s t);
  numbers = λ g h alike r heights numbers. (numbers_from h g (alike_sym g h alike) r heights numbers, numbers_from g h alike r heights numbers);
  planes = λ g h alike r d n. (planes_from h g (alike_sym g h alike) r d n, planes_from g h alike r d n);
}
