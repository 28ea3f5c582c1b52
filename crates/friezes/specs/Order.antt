-- The changes onto frieze types and their order.
use Rattle.std.specs.Prelude.{◌≡◌, ◌⊎◌, ℕ, ◌<◌, ◌≤◌}
use Rattle.friezes.specs.declared.found_frieze.TheConstants.{GRID}

-- the number of a type, and a point of the grid
pub record Change : Type 0 where
  pub number : ℕ
  pub x : ℕ

-- a change onto one of the seven types, by a point of the grid from 0 to below the cell edge
pub record IsBounded (c : Change) : Type 0 where
  pub from : 1 ≤ c.number
  pub to : c.number ≤ 7
  pub x : c.x < GRID

-- c stands before d: by the type, then by the point
abbrev pub IsBefore : Change → Change → Type 0
IsBefore c d = (c.number < d.number) ⊎ ((c.number ≡ d.number) × (c.x < d.x))

-- the first change with the property
pub record IsFirst (Has : Change → Type 0) (c : Change) : Type 0 where
  pub bounded : IsBounded c
  pub has : Has c
  pub first : (d : Change) → IsBounded d → Has d → (d ≡ c) ⊎ IsBefore c d
