use Rattle.symmetry.proofs.Alike.{alike_sym}
use Rattle.symmetry.proofs.AlikeScans.{all_from, list_from, scanning_from}
use Rattle.symmetry.proofs.listings.alike_lists.Goals as goal

pub returns : goal.returns
returns c = record {
  scanning = λ g h alike r ms. (scanning_from h g (alike_sym g h alike) r ms, scanning_from g h alike r ms);
  stabiliser = λ g h alike r f s ms. (list_from h g (alike_sym g h alike) r f s ms, list_from g h alike r f s ms);
  all = λ g h alike r f ms. (all_from h g (alike_sym g h alike) r f ms, all_from g h alike r f ms);
}
