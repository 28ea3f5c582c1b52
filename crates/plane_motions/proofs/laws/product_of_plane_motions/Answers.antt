use Rattle.plane_motions.proofs.PlaneBlocks.{plane_block_product}
use Rattle.plane_motions.proofs.laws.product_of_plane_motions.Goals as goal

pub returns : goal.returns
returns c = plane_block_product
