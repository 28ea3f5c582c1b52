-- The bounds of the entries bound each step.
use Rattle.std.proofs.Common.{ℕ, ℤ, List, [], ◌∷◌}
use Rattle.integers.proofs.Solver.{Expr, Expr.{var, ◌⊝◌, ◌⊗◌}}
use Rattle.integers.proofs.Coded.{code_fits, code_is, code_within, AllWithinBounds}
use Rattle.motions.proofs.inverses.minor.Goals as goal

abbrev bounds : List ℕ
bounds = 500 ∷ 500 ∷ 500 ∷ 500 ∷ []

abbrev whole : Expr
whole = var 0 ⊗ var 3 ⊝ var 1 ⊗ var 2

pub overflow_sub-result : goal.overflow_sub-result
overflow_sub-result c =
    code_fits bounds (c.args.a ∷ c.args.b ∷ c.args.c ∷ c.args.d ∷ []) whole tt (c.requires.a, (c.requires.b, (c.requires.c, (c.requires.d, tt))))

pub returns : goal.returns
returns c =
    let e : List ℤ = c.args.a ∷ c.args.b ∷ c.args.c ∷ c.args.d ∷ [] in
    let h : AllWithinBounds bounds e = (c.requires.a, (c.requires.b, (c.requires.c, (c.requires.d, tt)))) in
    record { is = code_is bounds e whole tt h; small = code_within bounds e whole tt h }
