use Rattle.std.proofs.Common.{◌∙◌, sym}
use Rattle.orbits.proofs.RowLists.{listed_row}
use Rattle.surveys.proofs.images.lists_row.Goals as goal

pub returns : goal.returns
returns c =
    let by = listed_row c.args.rows.now c.args.row.now c.told-rows c.told-row in
    (λ t. by.0 (sym c.contains.ensures.value ∙ t), λ a. c.contains.ensures.value ∙ by.1 a)
