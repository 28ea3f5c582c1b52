use Rattle.symmetry.proofs.Alike.{alike_sym, group_from, same_from, same_to}
use Rattle.symmetry.proofs.listings.alike_groups.Goals as goal

pub returns : goal.returns
returns c = record {
  same = λ g h alike m n. (same_to g h alike m n, same_from g h alike m n);
  group = λ g h alike. (group_from h g (alike_sym g h alike), group_from g h alike);
}
