use Rattle.slabs.proofs.SlabLists.{lists_slab_in_plane, same_lists}
use Rattle.slabs.proofs.laws.slab_lists.Goals as goal

pub returns-clause-same : goal.returns-clause-same
returns-clause-same c = same_lists

pub returns-clause-plane : goal.returns-clause-plane
returns-clause-plane c = lists_slab_in_plane
