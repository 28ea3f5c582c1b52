-- The sum and the difference are short, and what shortens tau by neither of four vectors is reduced.
use Rattle.std.proofs.Common.{ℤ, List, sym, subst}
use Rattle.symmetry.specs.Frames.{Basis}
use Rattle.symmetry.specs.Sizes.{IsVectorWithin}
use Rattle.symmetry.specs.Vectors.{Vector}
use Rattle.motions.specs.Views.{vector_of}
use Rattle.reduction.specs.BasisView.{vectors_of}
use Rattle.reduction.specs.Bounds.{largest_short}
use Rattle.reduction.specs.Forms.{by_form, form_matrix, IsShort, IsUnshortened}
use Rattle.reduction.specs.Reduced.{IsReduced}
use Rattle.reduction.proofs.PairSizes.{short, short_difference, short_sum}
use Rattle.reduction.proofs.ReducedBases.{reduced}
use Rattle.reduction.proofs.Shortening.{short_within}
use Rattle.reduction.proofs.shorten.with_short_tau.Goals as goal

pub without-sum-requires-clause-v : goal.without-sum-requires-clause-v
without-sum-requires-clause-v c =
    let g = form_matrix c.args.form.now in
    let v = vector_of c.args.basis.now.a in
    short_within g c.requires.form v (short g v c.requires.pair.a)

pub without-sum-requires-clause-w : goal.without-sum-requires-clause-w
without-sum-requires-clause-w c =
    let g = form_matrix c.args.form.now in
    let v = vector_of c.args.basis.now.b in
    short_within g c.requires.form v (short g v c.requires.pair.b)

pub without-sum-requires-clause-rest : goal.without-sum-requires-clause-rest
without-sum-requires-clause-rest c =
    let g = form_matrix c.args.form.now in
    short_within g c.requires.form _ (short_sum g c.requires.form (vectors_of c.args.basis.now) c.requires.pair c.requires.first)

pub without-difference-requires-clause-v : goal.without-difference-requires-clause-v
without-difference-requires-clause-v c =
    let g = form_matrix c.args.form.now in
    let v = vector_of c.args.basis.now.a in
    short_within g c.requires.form v (short g v c.requires.pair.a)

pub without-difference-requires-clause-w : goal.without-difference-requires-clause-w
without-difference-requires-clause-w c =
    let g = form_matrix c.args.form.now in
    let v = vector_of c.args.basis.now.b in
    short_within g c.requires.form v (short g v c.requires.pair.b)

pub without-difference-requires-clause-rest : goal.without-difference-requires-clause-rest
without-difference-requires-clause-rest c =
    let g = form_matrix c.args.form.now in
    short_within g c.requires.form _ (short_difference g c.requires.form (vectors_of c.args.basis.now) c.requires.pair c.requires.first)

pub with_tau_by-requires-clause-sum : goal.with_tau_by-requires-clause-sum
with_tau_by-requires-clause-sum c =
    let g = form_matrix c.args.form.now in
    subst (IsShort g) (sym c.without-sum.ensures) (short_sum g c.requires.form (vectors_of c.args.basis.now) c.requires.pair c.requires.first)

pub with_tau_by-requires-clause-difference : goal.with_tau_by-requires-clause-difference
with_tau_by-requires-clause-difference c =
    let g = form_matrix c.args.form.now in
    subst (IsShort g) (sym c.without-difference.ensures) (short_difference g c.requires.form (vectors_of c.args.basis.now) c.requires.pair c.requires.first)

pub returns-clause-reduced : goal.returns-clause-reduced
returns-clause-reduced c =
    let g = form_matrix c.args.form.now in
    let s = c.with_tau_by.ensures in
    let tau : Vector = vector_of c.with_tau_by.result.tau in
    let f : Basis = record { a = vector_of c.args.basis.now.a; b = vector_of c.args.basis.now.b; tau = tau } in
    subst (IsReduced (by_form g)) (λ i. record { a = vector_of (sym s.a i); b = vector_of (sym s.b i); tau = tau })
    (reduced g c.requires.form f s.by_a s.by_b (subst (IsUnshortened g tau) c.without-sum.ensures s.by_sum)
    (subst (IsUnshortened g tau) c.without-difference.ensures s.by_difference) c.requires.first c.requires.order)

pub returns-clause-a : goal.returns-clause-a
returns-clause-a c =
    let g = form_matrix c.args.form.now in
    let v = vector_of c.args.basis.now.a in
    subst (λ (a : List ℤ). IsVectorWithin largest_short (vector_of a)) (sym c.with_tau_by.ensures.a) (short_within g c.requires.form v (short g v c.requires.pair.a))

pub returns-clause-b : goal.returns-clause-b
returns-clause-b c =
    let g = form_matrix c.args.form.now in
    let v = vector_of c.args.basis.now.b in
    subst (λ (b : List ℤ). IsVectorWithin largest_short (vector_of b)) (sym c.with_tau_by.ensures.b) (short_within g c.requires.form v (short g v c.requires.pair.b))
