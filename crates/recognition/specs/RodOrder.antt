-- The bounded changes of rods and their order.
use Rattle.std.specs.Prelude.{◌≡◌, ◌⊎◌, ℕ, ◌<◌, ◌≤◌}
use Rattle.motions.specs.PlaneMatrices.{Matrix2}
use Rattle.motions.specs.PlaneSizes.{IsMatrix2Within}
use Rattle.recognition.specs.Order.{IsMatrixBefore}

-- the number of a type, a matrix, and a point of the grid
pub record Change : Type 0 where
  pub number : ℕ
  pub matrix : Matrix2
  pub z : ℕ

-- a bounded change onto one of n types: the entries of the matrix are -2 to 2, and the point is one of the grid
pub record IsBounded (n : ℕ) (c : Change) : Type 0 where
  pub from : 1 ≤ c.number
  pub to : c.number ≤ n
  pub matrix : IsMatrix2Within 2 c.matrix
  pub z : c.z < 96

-- c stands before d: by the type, then by the matrix, then by the point
abbrev pub IsBefore : Change → Change → Type 0
IsBefore c d =
    (c.number < d.number) ⊎ ((c.number ≡ d.number) × (IsMatrixBefore c.matrix d.matrix ⊎ ((c.matrix ≡ d.matrix) × (c.z < d.z))))

-- the first bounded change onto one of n types with the property
pub record IsFirst (n : ℕ) (Has : Change → Type 0) (c : Change) : Type 0 where
  pub bounded : IsBounded n c
  pub has : Has c
  pub first : (d : Change) → IsBounded n d → Has d → (d ≡ c) ⊎ IsBefore c d
