-- The bounds of the entries bound each step.
use Rattle.std.proofs.Common.{ℕ, ◌*◌, ◌^◌, pos, ◌*ℤ◌, List, [], ◌∷◌, lit≤}
use Rattle.std.specs.Prelude.{unsigned_abs}
use Rattle.fractions.specs.declared.part.TheConstants.{UNIT}
use Rattle.integers.proofs.Ring.{IsWithin-more}
use Rattle.integers.proofs.Solver.{Expr, Expr.{var, num, ◌⊕◌, ◌⊝◌, ◌⊗◌}}
use Rattle.integers.proofs.Coded.{code_fits, code_is, code_within}
use Rattle.plane_lattice.specs.Bounds.{largest_entry, largest_turned}
use Rattle.plane_lattice.proofs.Steps.{step_within}
use Rattle.plane_lattice.proofs.sections.drift_along.Goals as goal

abbrev bounds : List ℕ
bounds = 2 * unsigned_abs UNIT ∷ largest_turned ∷ largest_entry ∷ 2 ^ 40 ∷ []

abbrev whole : Expr
whole = var 0 ⊗ (var 1 ⊝ var 2) ⊕ num (pos 2 *ℤ UNIT) ⊗ var 3

pub overflow_add-result : goal.overflow_add-result
overflow_add-result c =
    code_fits bounds (c.args.steps ∷ c.args.turned.0 ∷ c.args.tau.0 ∷ c.args.translation.0 ∷ []) whole tt
    (step_within c.args.steps c.requires.from c.requires.below, (c.requires.turned, (c.requires.tau, (c.requires.translation, tt))))

pub returns-clause-is : goal.returns-clause-is
returns-clause-is c =
    code_is bounds (c.args.steps ∷ c.args.turned.0 ∷ c.args.tau.0 ∷ c.args.translation.0 ∷ []) whole tt
    (step_within c.args.steps c.requires.from c.requires.below, (c.requires.turned, (c.requires.tau, (c.requires.translation, tt))))

pub returns-clause-small : goal.returns-clause-small
returns-clause-small c =
    IsWithin-more
    (code_within bounds (c.args.steps ∷ c.args.turned.0 ∷ c.args.tau.0 ∷ c.args.translation.0 ∷ []) whole tt
    (step_within c.args.steps c.requires.from c.requires.below, (c.requires.turned, (c.requires.tau, (c.requires.translation, tt)))))
    (lit≤ tt)
