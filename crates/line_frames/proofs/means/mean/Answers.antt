-- Entry by entry.
use Rattle.symmetry.specs.Vectors.{plus}
use Rattle.motions.specs.Views.{parts}
use Rattle.line_frames.proofs.means.mean.Goals as goal

pub returns : goal.returns
unfolding plus
returns c = record {
  up = parts c.other_up-up.result;
  is_up = c.other_up-up.ensures.is;
  mean = record { x = c.mean_of_two.ensures; y = c.mean_of_two-2.ensures; z = c.mean_of_two-3.ensures };
}
