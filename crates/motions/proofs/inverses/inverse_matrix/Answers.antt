-- Where the determinant is 1 or -1, its cofactors undo the matrix; elsewhere nothing does.
use Rattle.std.proofs.Common.{◌≡◌, ◌∙◌, sym, ap, inl, inr, pos, negsuc, arith}
use Rattle.std.proofs.lemmas.Int.{ints}
use Rattle.symmetry.specs.Vectors.{Matrix, product}
use Rattle.motions.specs.Views.{matrix_of}
use Rattle.motions.proofs.Cofactors.{product-adjugate, adjugate-product, product-opposite_adjugate, opposite_adjugate-product, determinant_of_undone}
use Rattle.motions.proofs.inverses.inverse_matrix.Goals as goal

pub returns-in-1-clause-inverse : goal.returns-in-1-clause-inverse
returns-in-1-clause-inverse c =
    let m = matrix_of c.args.matrix.now in
    let one : c.determinant.result ≡ pos 1 = omega (arith, ints) in
    let d = sym c.determinant.ensures ∙ one in
    let is = c.cofactors.ensures.is in
    (ap (product m) is ∙ product-adjugate m d, ap (λ (a : Matrix). product a m) is ∙ adjugate-product m d)

pub returns-in-minus1-clause-inverse : goal.returns-in-minus1-clause-inverse
returns-in-minus1-clause-inverse c =
    let m = matrix_of c.args.matrix.now in
    let minus_one : c.determinant.result ≡ negsuc 0 = omega (arith, ints) in
    let d = sym c.determinant.ensures ∙ minus_one in
    let is = c.opposite_cofactors.ensures.is in
    (ap (product m) is ∙ product-opposite_adjugate m d, ap (λ (a : Matrix). product a m) is ∙ opposite_adjugate-product m d)

pub returns-in_default-clause-inverse : goal.returns-in_default-clause-inverse
returns-in_default-clause-inverse c n e =
    elim (determinant_of_undone (matrix_of c.args.matrix.now) n e) [
      | inl one ↦ let d = c.determinant.ensures ∙ one in absurd (omega (arith, ints))
      | inr minus_one ↦ let d = c.determinant.ensures ∙ minus_one in absurd (omega (arith, ints))
    ]
