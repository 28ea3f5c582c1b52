use Rattle.symmetry.proofs.Heights.{stands_once}
use Rattle.symmetry.proofs.scans.stands_once.Goals as goal

pub returns : goal.returns
returns c = stands_once
