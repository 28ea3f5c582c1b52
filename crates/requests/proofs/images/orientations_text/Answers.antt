use Rattle.std.proofs.Common.{map, ◌∙◌, ap, List, ℤ}
use Rattle.std.proofs.lemmas.Result.{err_from_is_err_and}
use Rattle.motions.specs.Views.{row_of, vector_of}
use Rattle.report.specs.Texts.{images_text}
use Rattle.requests.proofs.GroupAnswers.{images_obstacle}
use Rattle.requests.proofs.images.orientations_text.Goals as goal

pub returns-in_err-images-clause-obstacle : goal.returns-in_err-images-clause-obstacle
returns-in_err-images-clause-obstacle c =
    let p = err_from_is_err_and c.from_residual.result c.from_residual.ensures.1 in
    rw (p.1, p.2) (images_obstacle (row_of c.args.plane) c.args.group.now c.in_err-images.field-0.0 c.in_err-images.ensures.refused)

pub returns-clause-text : goal.returns-clause-text
returns-clause-text c = λ g of. record {
  rows = map vector_of c.in_ok-images.images.items;
  are_images = c.in_ok-images.ensures.rows g of;
  not_wide = c.in_ok-images.ensures.narrow g of;
  is_text = c.in_ok-images_text.ensures ∙ ap (λ (rows : List (List ℤ)). images_text (map vector_of rows)) c.deref.ensures.value;
}
