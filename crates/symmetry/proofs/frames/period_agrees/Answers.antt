use Rattle.symmetry.proofs.FrameLaws.{period_agrees}
use Rattle.symmetry.proofs.frames.period_agrees.Goals as goal

pub returns : goal.returns
returns c = period_agrees
