use Rattle.motions.proofs.LineBlocks.{rod_block_product}
use Rattle.motions.proofs.laws.product_of_rods.Goals as goal

pub returns : goal.returns
returns c = rod_block_product
