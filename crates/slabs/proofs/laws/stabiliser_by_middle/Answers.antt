use Rattle.slabs.proofs.SlabImages.{stabiliser_by_middle}
use Rattle.slabs.proofs.laws.stabiliser_by_middle.Goals as goal

pub returns : goal.returns
returns c = stabiliser_by_middle
