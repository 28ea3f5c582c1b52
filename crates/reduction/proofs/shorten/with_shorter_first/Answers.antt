-- The two are exchanged where the second is shorter.
use Rattle.motions.specs.Views.{vector_of}
use Rattle.reduction.specs.Forms.{form_matrix}
use Rattle.reduction.proofs.PairSizes.{short}
use Rattle.reduction.proofs.PairSteps.{adapted_swapped}
use Rattle.reduction.proofs.Shortening.{short_within}
use Rattle.reduction.proofs.shorten.with_shorter_first.Goals as goal

pub value_at-a-requires-clause-u : goal.value_at-a-requires-clause-u
value_at-a-requires-clause-u c =
    let g = form_matrix c.args.form.now in
    let v = vector_of c.args.basis.now.a in
    short_within g c.requires.form v (short g v c.requires.pair.a)

pub value_at-a-requires-clause-v : goal.value_at-a-requires-clause-v
value_at-a-requires-clause-v c =
    let g = form_matrix c.args.form.now in
    let v = vector_of c.args.basis.now.a in
    short_within g c.requires.form v (short g v c.requires.pair.a)

pub value_at-b-requires-clause-u : goal.value_at-b-requires-clause-u
value_at-b-requires-clause-u c =
    let g = form_matrix c.args.form.now in
    let v = vector_of c.args.basis.now.b in
    short_within g c.requires.form v (short g v c.requires.pair.b)

pub value_at-b-requires-clause-v : goal.value_at-b-requires-clause-v
value_at-b-requires-clause-v c =
    let g = form_matrix c.args.form.now in
    let v = vector_of c.args.basis.now.b in
    short_within g c.requires.form v (short g v c.requires.pair.b)

pub returns-then-b-a-clause-adapted : goal.returns-then-b-a-clause-adapted
returns-then-b-a-clause-adapted c g r h = adapted_swapped g r (vector_of c.args.basis.now.a) (vector_of c.args.basis.now.b) (vector_of c.args.basis.now.tau) h
