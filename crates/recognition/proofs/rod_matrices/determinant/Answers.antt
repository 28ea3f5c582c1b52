-- The bounds of the entries bound each step.
use Rattle.std.proofs.Common.{ℕ, ◌∷◌, List, []}
use Rattle.integers.proofs.Solver.{Expr, Expr.{var, ◌⊝◌, ◌⊗◌}}
use Rattle.integers.proofs.Coded.{code_fits, code_is}
use Rattle.motions.specs.PlaneViews.{matrix2_of}
use Rattle.recognition.proofs.rod_matrices.determinant.Goals as goal

abbrev bounds : List ℕ
bounds = 500 ∷ 500 ∷ 500 ∷ 500 ∷ []

abbrev whole : Expr
whole = var 0 ⊗ var 3 ⊝ var 1 ⊗ var 2

pub overflow_sub-result : goal.overflow_sub-result
overflow_sub-result c =
    let p = matrix2_of c.args.p.now in
    let h = c.requires in
    code_fits bounds (p.first.x ∷ p.first.y ∷ p.second.x ∷ p.second.y ∷ []) whole tt (h.first.x, (h.first.y, (h.second.x, (h.second.y, tt))))

pub returns : goal.returns
returns c =
    let p = matrix2_of c.args.p.now in
    let h = c.requires in
    code_is bounds (p.first.x ∷ p.first.y ∷ p.second.x ∷ p.second.y ∷ []) whole tt (h.first.x, (h.first.y, (h.second.x, (h.second.y, tt))))
