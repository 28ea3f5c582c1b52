-- The bounds of the entries bound each step.
use Rattle.std.proofs.Common.{ℕ, List, [], ◌∷◌}
use Rattle.integers.proofs.Solver.{Expr, Expr.{var, ◌⊕◌, ◌⊗◌}}
use Rattle.integers.proofs.Coded.{code_fits, code_is, code_within}
use Rattle.reduction.specs.Bounds.{largest_value, largest_once}
use Rattle.reduction.proofs.adapted.entry.Goals as goal

abbrev bounds : List ℕ
bounds = largest_value ∷ largest_once ∷ largest_value ∷ largest_once ∷ []

abbrev whole : Expr
whole = var 0 ⊗ var 1 ⊕ var 2 ⊗ var 3

pub overflow_add-result : goal.overflow_add-result
overflow_add-result c = code_fits bounds (c.args.x ∷ c.args.u ∷ c.args.y ∷ c.args.v ∷ []) whole tt (c.requires.x, (c.requires.u, (c.requires.y, (c.requires.v, tt))))

pub returns : goal.returns
returns c = record {
  is = code_is bounds (c.args.x ∷ c.args.u ∷ c.args.y ∷ c.args.v ∷ []) whole tt (c.requires.x, (c.requires.u, (c.requires.y, (c.requires.v, tt))));
  small = code_within bounds (c.args.x ∷ c.args.u ∷ c.args.y ∷ c.args.v ∷ []) whole tt (c.requires.x, (c.requires.u, (c.requires.y, (c.requires.v, tt))));
}
