-- Where the determinant is 1 or -1, its cofactors undo the matrix; elsewhere nothing does.
use Rattle.std.proofs.Common.{◌≡◌, ◌∙◌, sym, ap, inl, inr, pos, negsuc, arith}
use Rattle.std.proofs.lemmas.Int.{ints}
use Rattle.motions.specs.PlaneMatrices.{Matrix2, product2}
use Rattle.motions.specs.PlaneViews.{matrix2_of}
use Rattle.motions.proofs.PlaneCofactors.{product2-adjugate, adjugate2-product, product2-opposite_adjugate, opposite_adjugate2-product, determinant2_of_undone}
use Rattle.motions.proofs.plane_matrices.inverse2.Goals as goal

pub returns-in-1-clause-inverse : goal.returns-in-1-clause-inverse
returns-in-1-clause-inverse c =
    let m = matrix2_of c.args.matrix.now in
    let one : c.determinant2.result ≡ pos 1 = omega (arith, ints) in
    let d = sym c.determinant2.ensures ∙ one in
    let is = c.cofactors2.ensures.is in
    (ap (product2 m) is ∙ product2-adjugate m d, ap (λ (a : Matrix2). product2 a m) is ∙ adjugate2-product m d)

pub returns-in-minus1-clause-inverse : goal.returns-in-minus1-clause-inverse
returns-in-minus1-clause-inverse c =
    let m = matrix2_of c.args.matrix.now in
    let minus_one : c.determinant2.result ≡ negsuc 0 = omega (arith, ints) in
    let d = sym c.determinant2.ensures ∙ minus_one in
    let is = c.negative_cofactors2.ensures.is in
    (ap (product2 m) is ∙ product2-opposite_adjugate m d, ap (λ (a : Matrix2). product2 a m) is ∙ opposite_adjugate2-product m d)

pub returns-in_default-clause-inverse : goal.returns-in_default-clause-inverse
returns-in_default-clause-inverse c n e =
    elim (determinant2_of_undone (matrix2_of c.args.matrix.now) n e) [
      | inl one ↦ let d = c.determinant2.ensures ∙ one in absurd (omega (arith, ints))
      | inr minus_one ↦ let d = c.determinant2.ensures ∙ minus_one in absurd (omega (arith, ints))
    ]
