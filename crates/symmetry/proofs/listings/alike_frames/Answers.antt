use Rattle.symmetry.proofs.Alike.{alike_sym, frame_from, frame_to, member_from, member_to, period_from, skewed_as, special_from, special_to}
use Rattle.symmetry.proofs.listings.alike_frames.Goals as goal

pub returns : goal.returns
returns c = record {
  frame = λ g h alike r f. (frame_to g h alike r f, frame_from g h alike r f);
  skewed = λ g h alike r f. (skewed_as g h (member_to g h alike) r f, skewed_as h g (member_from g h alike) r f);
  period = λ g h alike r d. (period_from h g (alike_sym g h alike) r d, period_from g h alike r d);
  special = λ g h alike r s. (special_to g h alike r s, special_from g h alike r s);
}
