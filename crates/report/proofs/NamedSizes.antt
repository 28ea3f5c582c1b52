-- How large the numbers are that an origin is written with.
use Rattle.std.proofs.Common.{ℕ, ◌*◌, List, [], ◌∷◌}
use Rattle.integers.proofs.Solver.{Expr, Expr.{var, ◌⊕◌, ◌⊗◌}}
use Rattle.plane_lattice.specs.Bounds.{largest_entry}
use Rattle.recognition.specs.Grid.{grid}
use Rattle.plane_lattice.proofs.OriginSizes.{origin_bounds}

-- x a + y b
abbrev pub plane_bounds : List ℕ
plane_bounds = largest_entry ∷ largest_entry ∷ grid ∷ grid ∷ []

abbrev pub in_plane : Expr
in_plane = var 2 ⊗ var 0 ⊕ var 3 ⊗ var 1

-- an entry of an origin, of which the part that is counted is x a + y b
abbrev pub counted_bounds : List ℕ
counted_bounds = origin_bounds (2 * (grid * largest_entry))
