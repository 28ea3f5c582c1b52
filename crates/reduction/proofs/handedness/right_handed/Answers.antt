-- The opposite of b turns the sign.
use Rattle.std.proofs.Common.{◌≡◌, ℤ, pos, negsuc, ◌*ℤ◌, ◌≤ℤ◌, ◌<ℤ◌, sym, ap, subst, ◌∙◌, arith, rules}
use Rattle.std.proofs.lemmas.Int.{ints}
use Rattle.symmetry.specs.Vectors.{Vector, cross, dot, opposite}
use Rattle.symmetry.proofs.VectorLaws.{dot-multiple}
use Rattle.motions.specs.Views.{row_of, vector_of}
use Rattle.reduction.specs.BasisView.{vectors_of}
use Rattle.reduction.specs.Forms.{by_form}
use Rattle.reduction.specs.Reduced.{IsReduced}
use Rattle.reduction.proofs.PairSteps.{adapted_opposite, cross-opposite}
use Rattle.reduction.proofs.ReducedBases.{reduced_opposite}
use Rattle.reduction.proofs.handedness.right_handed.Goals as goal

pub returns-then-handedness-lt0-clause-adapted : goal.returns-then-handedness-lt0-clause-adapted
returns-then-handedness-lt0-clause-adapted c g r h =
    adapted_opposite g r (vector_of c.args.basis.now.a) (vector_of c.args.basis.now.b) (vector_of c.args.basis.now.tau) h (vector_of c.opposite.result) c.opposite.ensures

pub returns-then-handedness-lt0-clause-reduced : goal.returns-then-handedness-lt0-clause-reduced
returns-then-handedness-lt0-clause-reduced c g h =
    let f = vectors_of c.args.basis.now in
    subst (λ (b : Vector). IsReduced (by_form g) (record { a = f.a; b = b; tau = f.tau })) (sym c.opposite.ensures) (reduced_opposite g f h)

turned : (r a b u : Vector) (x : ℤ) → x ≡ dot r (cross a b) → u ≡ opposite b → x <ℤ pos 0 → pos 0 ≤ℤ dot r (cross a u)
turned r a b u x e is below =
    let flipped : dot r (cross a u) ≡ negsuc 0 *ℤ dot r (cross a b) =
    ap (λ (v : Vector). dot r (cross a v)) is ∙ ap (dot r) (cross-opposite a b) ∙ dot-multiple r (negsuc 0) (cross a b) in
    omega (arith, ints, flipped, e, below)

pub returns-then-handedness-lt0-clause-oriented : goal.returns-then-handedness-lt0-clause-oriented
returns-then-handedness-lt0-clause-oriented c =
    let below : c.handedness.result <ℤ pos 0 = search rules in
    turned (row_of c.args.plane.now) (vector_of c.args.basis.now.a) (vector_of c.args.basis.now.b) (vector_of c.opposite.result)
    c.handedness.result c.handedness.ensures c.opposite.ensures below
