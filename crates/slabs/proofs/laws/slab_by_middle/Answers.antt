use Rattle.slabs.proofs.SlabImages.{slab_by_middle}
use Rattle.slabs.proofs.laws.slab_by_middle.Goals as goal

pub returns : goal.returns
returns c = slab_by_middle
