use Rattle.std.proofs.Common.{nat_abs}
use Rattle.motions.specs.Views.{vector_of}
use Rattle.reduction.specs.Forms.{by_form, form_matrix}
use Rattle.reduction.proofs.shorten.+with_tau_by.Given as goal

abbrev pub decreases-with_tau_by : goal.decreases-with_tau_by
decreases-with_tau_by l = nat_abs (by_form (form_matrix l.form.now) (vector_of l.basis.now.tau) (vector_of l.basis.now.tau))
