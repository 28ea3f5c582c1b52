-- Each step keeps the basis, and makes one vector shorter.
use Rattle.std.proofs.Common.{arith}
use Rattle.motions.specs.Views.{vector_of}
use Rattle.reduction.specs.Forms.{form_matrix}
use Rattle.reduction.proofs.PairSizes.{shorter}
use Rattle.reduction.proofs.PairSteps.{adapted_a, adapted_b, smaller}
use Rattle.reduction.proofs.shorten.+with_short_pair.Goals as goal

pub with_short_pair-requires : goal.with_short_pair-requires
with_short_pair-requires t c =
    let g = form_matrix c.args.form.now in
    let a = vector_of c.args.basis.now.a in
    let b = vector_of c.args.basis.now.b in
    let u = vector_of c.in-Some.b in
    let less = smaller g c.requires.form b a u c.in-Some.ensures in
    let falls = c.decreases in
    (omega (arith, less, falls), (c.requires.form, record { a = c.requires.pair.a; b = shorter g b a u c.requires.pair.b c.in-Some.ensures }))

pub with_short_pair-requires-in-Some-shortened : goal.with_short_pair-requires-in-Some-shortened
with_short_pair-requires-in-Some-shortened t c =
    let g = form_matrix c.args.form.now in
    let a = vector_of c.args.basis.now.a in
    let b = vector_of c.args.basis.now.b in
    let u = vector_of c.in-Some-shortened.a in
    let less = smaller g c.requires.form a b u c.in-Some-shortened.ensures in
    let falls = c.decreases in
    (omega (arith, less, falls), (c.requires.form, record { a = shorter g a b u c.requires.pair.a c.in-Some-shortened.ensures; b = c.requires.pair.b }))

pub returns-in-Some-clause-adapted : goal.returns-in-Some-clause-adapted
returns-in-Some-clause-adapted t c g r h =
    let s = c.in-Some.ensures in
    c.with_short_pair.ensures.adapted g r
    (adapted_b g r (vector_of c.args.basis.now.a) (vector_of c.args.basis.now.b) (vector_of c.args.basis.now.tau) h s.times (vector_of c.in-Some.b) s.is)

pub returns-in-Some-shortened-clause-adapted : goal.returns-in-Some-shortened-clause-adapted
returns-in-Some-shortened-clause-adapted t c g r h =
    let s = c.in-Some-shortened.ensures in
    c.with_short_pair-in-Some-shortened.ensures.adapted g r
    (adapted_a g r (vector_of c.args.basis.now.a) (vector_of c.args.basis.now.b) (vector_of c.args.basis.now.tau) h s.times
    (vector_of c.in-Some-shortened.a) s.is)
