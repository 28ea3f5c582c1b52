-- The tests are computed on the whole table.
use Rattle.std.proofs.Common.{refl}
use Rattle.quotient.proofs.TableLemma.{table_is}
use Rattle.line_types.specs.Friezes.{IsFriezeType}
use Rattle.line_types.specs.FriezeRows.{frieze_row}
use Rattle.line_types.proofs.FriezeTests.{is_frieze_type, is_frieze_type_is}
use Rattle.line_types.proofs.friezes.types.Goals as goal

pub returns : goal.returns
unfolding frieze_row
returns c = table_is IsFriezeType is_frieze_type is_frieze_type_is 7 _ refl refl
