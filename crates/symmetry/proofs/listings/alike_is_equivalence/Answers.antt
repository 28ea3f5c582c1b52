use Rattle.symmetry.proofs.Alike.{alike_refl, alike_sym, alike_trans}
use Rattle.symmetry.proofs.listings.alike_is_equivalence.Goals as goal

pub returns : goal.returns
returns c = record { reflexive = alike_refl; symmetric = alike_sym; transitive = alike_trans }
