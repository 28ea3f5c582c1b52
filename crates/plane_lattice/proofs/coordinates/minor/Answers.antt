-- The bounds of the entries bound each step.
use Rattle.std.proofs.Common.{ℕ, ℤ, List, [], ◌∷◌}
use Rattle.integers.proofs.Solver.{Expr, Expr.{var, ◌⊝◌, ◌⊗◌}}
use Rattle.integers.proofs.Coded.{code_fits, code_is, code_within, AllWithinBounds}
use Rattle.plane_lattice.specs.Bounds.{largest_entry}
use Rattle.plane_lattice.proofs.coordinates.minor.Goals as goal

abbrev bounds : List ℕ
bounds = largest_entry ∷ largest_entry ∷ largest_entry ∷ largest_entry ∷ []

abbrev whole : Expr
whole = var 0 ⊗ var 3 ⊝ var 1 ⊗ var 2

pub overflow_mul-result : goal.overflow_mul-result
overflow_mul-result c =
    code_fits bounds (c.args.a.0 ∷ c.args.b.0 ∷ c.args.c.0 ∷ c.args.d.0 ∷ []) (var 0 ⊗ var 3) tt (c.requires.a, (c.requires.b, (c.requires.c, (c.requires.d, tt))))

pub overflow_mul-result-2 : goal.overflow_mul-result-2
overflow_mul-result-2 c =
    code_fits bounds (c.args.a.0 ∷ c.args.b.0 ∷ c.args.c.0 ∷ c.args.d.0 ∷ []) (var 1 ⊗ var 2) tt (c.requires.a, (c.requires.b, (c.requires.c, (c.requires.d, tt))))

pub overflow_sub-result : goal.overflow_sub-result
overflow_sub-result c =
    code_fits bounds (c.args.a.0 ∷ c.args.b.0 ∷ c.args.c.0 ∷ c.args.d.0 ∷ []) whole tt (c.requires.a, (c.requires.b, (c.requires.c, (c.requires.d, tt))))

pub returns : goal.returns
returns c =
    let e : List ℤ = c.args.a.0 ∷ c.args.b.0 ∷ c.args.c.0 ∷ c.args.d.0 ∷ [] in
    let h : AllWithinBounds bounds e = (c.requires.a, (c.requires.b, (c.requires.c, (c.requires.d, tt)))) in
    record { is = code_is bounds e whole tt h; small = code_within bounds e whole tt h }
