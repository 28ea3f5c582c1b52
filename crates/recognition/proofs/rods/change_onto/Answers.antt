use Rattle.std.proofs.Common.{refl, sym, subst}
use Rattle.motions.specs.PlaneMatrices.{Matrix2}
use Rattle.recognition.specs.RodTypes.{HasChangeOnto}
use Rattle.recognition.specs.RodSearch.{IsFirstMatrix, matrix_at}
use Rattle.recognition.proofs.RodTypeLemma.{small_ops, of_no_matrix, of_first_matrix}
use Rattle.recognition.proofs.rods.change_onto.Goals as goal

pub first_matrix-requires-clause-ops : goal.first_matrix-requires-clause-ops
first_matrix-requires-clause-ops c = small_ops c.args.number c.in-Some.t.now c.in-Some.ensures.exact

pub returns-in-None-first_matrix : goal.returns-in-None-first_matrix
returns-in-None-first_matrix c = of_no_matrix c.args.number c.in-Some.t.now c.in-Some.ensures.exact c.args.section.now c.in-None-first_matrix.ensures

pub returns-in-Some-first_matrix : goal.returns-in-Some-first_matrix
returns-in-Some-first_matrix c =
    let f = c.in-Some-first_matrix.found in
    let First : Matrix2 → Type 0 = λ p. IsFirstMatrix (HasChangeOnto c.args.section.now c.args.number) p f.z in (
      refl,
      subst First (sym c.matrix_at.ensures)
          (of_first_matrix c.args.number c.in-Some.t.now c.in-Some.ensures.exact c.args.section.now (matrix_at f.index) f.z c.in-Some-first_matrix.ensures.1),
    )
