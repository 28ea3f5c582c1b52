-- The tests are computed on the whole table.
use Rattle.std.proofs.Common.{refl}
use Rattle.quotient.proofs.TableLemma.{table_is}
use Rattle.line_types.specs.Rods.{IsRodType}
use Rattle.line_types.specs.RodRows.{rod_row}
use Rattle.line_types.proofs.RodTests.{is_rod_type, is_rod_type_is}
use Rattle.line_types.proofs.rods.types.Goals as goal

pub returns : goal.returns
unfolding rod_row
returns c = table_is IsRodType is_rod_type is_rod_type_is 75 _ refl refl
