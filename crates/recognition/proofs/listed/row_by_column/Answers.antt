-- The bounds of the row and of the column bound each step.
use Rattle.std.proofs.Common.{ℕ, ◌^◌, ◌∷◌, List, [], ℤ}
use Rattle.integers.proofs.Solver.{Expr, Expr.{var, ◌⊕◌, ◌⊗◌}}
use Rattle.integers.proofs.Coded.{code_fits, code_is, code_within, AllWithinBounds}
use Rattle.motions.specs.PlaneViews.{pair_of}
use Rattle.recognition.proofs.listed.row_by_column.Goals as goal

abbrev bounds : List ℕ
bounds = 500 ∷ 500 ∷ 2 ^ 40 ∷ 2 ^ 40 ∷ []

abbrev whole : Expr
whole = var 0 ⊗ var 2 ⊕ var 1 ⊗ var 3

pub overflow_add-result : goal.overflow_add-result
overflow_add-result c =
    let r = pair_of c.args.row.now in
    let h = c.requires in
    code_fits bounds (r.x ∷ r.y ∷ c.args.x ∷ c.args.y ∷ []) whole tt (h.row.x, (h.row.y, (h.x, (h.y, tt))))

pub returns : goal.returns
returns c =
    let r = pair_of c.args.row.now in
    let h = c.requires in
    let e : List ℤ = r.x ∷ r.y ∷ c.args.x ∷ c.args.y ∷ [] in
    let within : AllWithinBounds bounds e = (h.row.x, (h.row.y, (h.x, (h.y, tt)))) in
    record { is = code_is bounds e whole tt within; small = code_within bounds e whole tt within }
