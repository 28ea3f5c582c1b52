-- How large the numbers are that an entry of an origin is written with: a height times tau, and a part that is counted in m.
use Rattle.std.proofs.Common.{ℕ, ◌*◌, ℤ, List, [], ◌∷◌}
use Rattle.std.specs.Prelude.{unsigned_abs}
use Rattle.fractions.specs.declared.part.TheConstants.{UNIT}
use Rattle.integers.proofs.Solver.{Expr, Expr.{var, num, ◌⊕◌, ◌⊗◌}}
use Rattle.plane_lattice.specs.Bounds.{largest_entry, largest_period}

-- of the numerator and the denominator of the height, the period, the entry of tau, and the part that is counted
abbrev pub origin_bounds : ℕ → List ℕ
origin_bounds part = 2 * largest_period ∷ 2 * unsigned_abs UNIT ∷ largest_period ∷ largest_entry ∷ part ∷ []

abbrev pub part_over : Expr
part_over = var 1 ⊗ var 2 ⊗ var 4

abbrev pub numerator : ℤ → Expr
numerator m = num m ⊗ (var 0 ⊗ var 3) ⊕ part_over

abbrev pub over_bounds : List ℕ
over_bounds = 2 * unsigned_abs UNIT ∷ largest_period ∷ []

abbrev pub denominator : ℤ → Expr
denominator m = var 0 ⊗ var 1 ⊗ num m
