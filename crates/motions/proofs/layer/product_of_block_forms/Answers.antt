-- The law of the products of block forms.
use Rattle.motions.proofs.Blocks.{block_form_product}
use Rattle.motions.proofs.layer.product_of_block_forms.Goals as goal

pub returns : goal.returns
returns c = block_form_product
