-- Each step keeps the basis, and makes tau shorter.
use Rattle.std.proofs.Common.{pos, negsuc, arith}
use Rattle.motions.specs.Views.{vector_of}
use Rattle.reduction.specs.Forms.{form_matrix}
use Rattle.reduction.proofs.PairSteps.{adapted_tau, first_alone, second_alone, still_short, smaller}
use Rattle.reduction.proofs.shorten.+with_tau_by.Goals as goal

pub with_tau_by-requires : goal.with_tau_by-requires
with_tau_by-requires t c =
    let u = vector_of c.in-Some.tau in
    let less = smaller (form_matrix c.args.form.now) c.requires.form (vector_of c.args.basis.now.tau) (vector_of c.args.basis.now.a) u c.in-Some.ensures in
    let falls = c.decreases in (
      omega (arith, less, falls),
      (
        c.requires.form,
        (
          c.requires.a,
          (
            c.requires.b,
            (
              still_short (form_matrix c.args.form.now) (vector_of c.args.basis.now.tau) (vector_of c.args.basis.now.a) u c.requires.tau c.in-Some.ensures,
              (c.requires.sum, (c.requires.difference, (c.requires.sum_is, c.requires.difference_is))),
            ),
          ),
        ),
      ),
    )

pub returns-in-Some-clause-adapted : goal.returns-in-Some-clause-adapted
returns-in-Some-clause-adapted t c g r h =
    let s = c.in-Some.ensures in
    c.with_tau_by.ensures.adapted g r (adapted_tau g r (vector_of c.args.basis.now.a) (vector_of c.args.basis.now.b) (vector_of c.args.basis.now.tau) h s.times (pos 1) (pos 0) (vector_of c.args.basis.now.a) (vector_of c.in-Some.tau) (first_alone (vector_of c.args.basis.now.a) (vector_of c.args.basis.now.b)) s.is)

pub with_tau_by-requires-in-Some-shortened : goal.with_tau_by-requires-in-Some-shortened
with_tau_by-requires-in-Some-shortened t c =
    let u = vector_of c.in-Some-shortened.tau in
    let less = smaller (form_matrix c.args.form.now) c.requires.form (vector_of c.args.basis.now.tau) (vector_of c.args.basis.now.b) u c.in-Some-shortened.ensures in
    let falls = c.decreases in (
      omega (arith, less, falls),
      (
        c.requires.form,
        (
          c.requires.a,
          (
            c.requires.b,
            (
              still_short (form_matrix c.args.form.now) (vector_of c.args.basis.now.tau) (vector_of c.args.basis.now.b) u c.requires.tau c.in-Some-shortened.ensures,
              (c.requires.sum, (c.requires.difference, (c.requires.sum_is, c.requires.difference_is))),
            ),
          ),
        ),
      ),
    )

pub returns-in-Some-shortened-clause-adapted : goal.returns-in-Some-shortened-clause-adapted
returns-in-Some-shortened-clause-adapted t c g r h =
    let s = c.in-Some-shortened.ensures in
    c.with_tau_by-in-Some-shortened.ensures.adapted g r (adapted_tau g r (vector_of c.args.basis.now.a) (vector_of c.args.basis.now.b) (vector_of c.args.basis.now.tau) h s.times (pos 0) (pos 1) (vector_of c.args.basis.now.b) (vector_of c.in-Some-shortened.tau) (second_alone (vector_of c.args.basis.now.a) (vector_of c.args.basis.now.b)) s.is)

pub with_tau_by-requires-in-Some-shortened-2 : goal.with_tau_by-requires-in-Some-shortened-2
with_tau_by-requires-in-Some-shortened-2 t c =
    let u = vector_of c.in-Some-shortened-2.tau in
    let less = smaller (form_matrix c.args.form.now) c.requires.form (vector_of c.args.basis.now.tau) (vector_of c.args.sum.now) u c.in-Some-shortened-2.ensures in
    let falls = c.decreases in (
      omega (arith, less, falls),
      (
        c.requires.form,
        (
          c.requires.a,
          (
            c.requires.b,
            (
              still_short (form_matrix c.args.form.now) (vector_of c.args.basis.now.tau) (vector_of c.args.sum.now) u c.requires.tau c.in-Some-shortened-2.ensures,
              (c.requires.sum, (c.requires.difference, (c.requires.sum_is, c.requires.difference_is))),
            ),
          ),
        ),
      ),
    )

pub returns-in-Some-shortened-2-clause-adapted : goal.returns-in-Some-shortened-2-clause-adapted
returns-in-Some-shortened-2-clause-adapted t c g r h =
    let s = c.in-Some-shortened-2.ensures in
    c.with_tau_by-in-Some-shortened-2.ensures.adapted g r (adapted_tau g r (vector_of c.args.basis.now.a) (vector_of c.args.basis.now.b) (vector_of c.args.basis.now.tau) h s.times (pos 1) (pos 1) (vector_of c.args.sum.now) (vector_of c.in-Some-shortened-2.tau) c.requires.sum_is s.is)

pub with_tau_by-requires-in-Some-shortened-3 : goal.with_tau_by-requires-in-Some-shortened-3
with_tau_by-requires-in-Some-shortened-3 t c =
    let u = vector_of c.in-Some-shortened-3.tau in
    let less = smaller (form_matrix c.args.form.now) c.requires.form (vector_of c.args.basis.now.tau) (vector_of c.args.difference.now) u c.in-Some-shortened-3.ensures in
    let falls = c.decreases in (
      omega (arith, less, falls),
      (
        c.requires.form,
        (
          c.requires.a,
          (
            c.requires.b,
            (
              still_short (form_matrix c.args.form.now) (vector_of c.args.basis.now.tau) (vector_of c.args.difference.now) u c.requires.tau c.in-Some-shortened-3.ensures,
              (c.requires.sum, (c.requires.difference, (c.requires.sum_is, c.requires.difference_is))),
            ),
          ),
        ),
      ),
    )

pub returns-in-Some-shortened-3-clause-adapted : goal.returns-in-Some-shortened-3-clause-adapted
returns-in-Some-shortened-3-clause-adapted t c g r h =
    let s = c.in-Some-shortened-3.ensures in
    c.with_tau_by-in-Some-shortened-3.ensures.adapted g r (adapted_tau g r (vector_of c.args.basis.now.a) (vector_of c.args.basis.now.b) (vector_of c.args.basis.now.tau) h s.times (pos 1) (negsuc 0) (vector_of c.args.difference.now) (vector_of c.in-Some-shortened-3.tau) c.requires.difference_is s.is)
