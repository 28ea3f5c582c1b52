use Rattle.motions.proofs.LineBlocks.{frieze_block_product}
use Rattle.motions.proofs.laws.product_of_friezes.Goals as goal

pub returns : goal.returns
returns c = frieze_block_product
