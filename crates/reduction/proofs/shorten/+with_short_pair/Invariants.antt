use Rattle.std.proofs.Common.{◌+◌, nat_abs}
use Rattle.motions.specs.Views.{vector_of}
use Rattle.reduction.specs.Forms.{by_form, form_matrix}
use Rattle.reduction.proofs.shorten.+with_short_pair.Given as goal

abbrev pub decreases-with_short_pair : goal.decreases-with_short_pair
decreases-with_short_pair l =
    nat_abs (by_form (form_matrix l.form.now) (vector_of l.basis.now.a) (vector_of l.basis.now.a)) + nat_abs (by_form (form_matrix l.form.now) (vector_of l.basis.now.b) (vector_of l.basis.now.b))
