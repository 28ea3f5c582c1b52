use Rattle.triplets.proofs.BegunRows.{one_begun_row}
use Rattle.triplets.proofs.laws.one_begun_row.Goals as goal

pub returns : goal.returns
returns c = one_begun_row
