-- The image of the row is compared with the row and with its opposite.
use Rattle.std.proofs.Common.{◌∙◌, sym, ap, refl}
use Rattle.symmetry.specs.Vectors.{row_times, opposite}
use Rattle.symmetry.proofs.VectorLaws.{multiple-one}
use Rattle.motions.specs.Views.{row_of, matrix_of}
use Rattle.motions.specs.declared.motion.Sign.TheVariants.{Plus, Minus}
use Rattle.motions.proofs.Sides.{side_some, side_none}
use Rattle.motions.proofs.rows.side.Goals as goal

pub returns-then-is_same_row-clause-sign : goal.returns-then-is_same_row-clause-sign
returns-then-is_same_row-clause-sign c =
    let plane = c.args.plane.now in
    let w = matrix_of c.args.m.now.w in
    let image = sym c.row_image-image.ensures in
    let kept = image ∙ c.if-is_same_row.ensures.decides.0 refl ∙ c.row-row.ensures.is in
    side_some Plus (row_of plane) (row_times (row_of plane) w) plane.coprime (kept ∙ sym (multiple-one (row_of plane)))

pub returns-then-is_same_row-2-clause-sign : goal.returns-then-is_same_row-2-clause-sign
returns-then-is_same_row-2-clause-sign c =
    let plane = c.args.plane.now in
    let w = matrix_of c.args.m.now.w in
    let image = sym c.row_image-image.ensures in
    let turned = image ∙ c.if-is_same_row-2.ensures.decides.0 refl ∙ c.opposite_row.ensures ∙ ap opposite c.row-row.ensures.is in
    side_some Minus (row_of plane) (row_times (row_of plane) w) plane.coprime turned

pub returns-else-is_same_row-2-clause-sign : goal.returns-else-is_same_row-2-clause-sign
returns-else-is_same_row-2-clause-sign c =
    let plane = c.args.plane.now in
    let w = matrix_of c.args.m.now.w in
    let image = c.row_image-image.ensures in
    side_none (row_of plane) (row_times (row_of plane) w)
    (λ kept. cc (c.if-is_same_row.ensures.decides.1 (image ∙ kept ∙ sym c.row-row.ensures.is)))
    (λ turned. cc (c.if-is_same_row-2.ensures.decides.1 (image ∙ turned ∙ ap opposite (sym c.row-row.ensures.is) ∙ sym c.opposite_row.ensures)))
