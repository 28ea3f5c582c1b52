-- How large the numbers are that an origin is written with.
use Rattle.std.proofs.Common.{ℕ, ◌*◌, List, [], ◌∷◌}
use Rattle.friezes.specs.declared.found_frieze.TheConstants.{GRID}
use Rattle.integers.proofs.Solver.{Expr, Expr.{var, ◌⊗◌}}
use Rattle.plane_lattice.specs.Bounds.{largest_entry}
use Rattle.plane_lattice.proofs.OriginSizes.{origin_bounds}

-- x a
abbrev pub grid_bounds : List ℕ
grid_bounds = largest_entry ∷ GRID ∷ []

abbrev pub on_grid : Expr
on_grid = var 1 ⊗ var 0

-- an entry of an origin, of which the part that is counted is x a
abbrev pub counted_bounds : List ℕ
counted_bounds = origin_bounds (GRID * largest_entry)
