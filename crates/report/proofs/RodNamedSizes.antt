-- How large the numbers are that the vectors and the origin of a rod type are written with.
use Rattle.std.proofs.Common.{ℕ, ◌^◌, List, [], ◌∷◌}
use Rattle.integers.proofs.Solver.{Expr, Expr.{var, num, ◌⊕◌, ◌⊗◌}}
use Rattle.plane_lattice.specs.Bounds.{largest_entry}
use Rattle.recognition.specs.declared.found_rod.TheConstants.{ROD_GRID}

-- x v, over the product of both denominators
abbrev pub term_bounds : List ℕ
term_bounds = 2 ∷ 2 ^ 40 ∷ 2 ^ 20 ∷ []

abbrev pub term : Expr
term = var 0 ⊗ var 1 ⊗ var 2

-- the product of both denominators
abbrev pub below_bounds : List ℕ
below_bounds = 2 ^ 20 ∷ 2 ^ 20 ∷ []

abbrev pub below : Expr
below = var 0 ⊗ var 1

-- an entry of an origin: the point, the axis, and the place on the grid
abbrev pub along_bounds : List ℕ
along_bounds = largest_entry ∷ largest_entry ∷ 96 ∷ []

abbrev pub along : Expr
along = num ROD_GRID ⊗ var 0 ⊕ var 2 ⊗ var 1
