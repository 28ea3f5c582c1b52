use Rattle.symmetry.proofs.FrameLaws.{special_by_listed}
use Rattle.symmetry.proofs.frames.special_by_listed.Goals as goal

pub returns : goal.returns
returns c = special_by_listed
