use Rattle.slabs.proofs.SlabImages.{empty_by_heights}
use Rattle.slabs.proofs.laws.empty_by_heights.Goals as goal

pub returns : goal.returns
returns c = empty_by_heights
