-- Each row of the table passes the test of its number: computed.
use Rattle.std.proofs.Common.{refl}
use Rattle.quotient.proofs.TableLemma.{table_is}
use Rattle.layer_types.specs.Rows.{layer_row}
use Rattle.layer_types.specs.LayerTypes.{IsLayerType}
use Rattle.layer_types.proofs.RowTests.{is_layer_type, layer_type}
use Rattle.layer_types.proofs.type_table.layer_types.Goals as goal

pub returns : goal.returns
unfolding layer_row
returns c = table_is IsLayerType is_layer_type layer_type 80 _ refl refl
