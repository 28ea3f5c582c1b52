use Rattle.symmetry.proofs.Means.{mean_is_kept}
use Rattle.symmetry.proofs.frames.mean_is_kept.Goals as goal

pub returns : goal.returns
returns c = mean_is_kept
