-- The bounded changes and their order.
use Rattle.std.specs.Prelude.{◌≡◌, ◌⊎◌, ℕ, pos, ◌+◌, ◌≤◌, ◌<◌, ◌<ℤ◌, nat_abs, List}
use Rattle.motions.specs.declared.layer.LayerMotion.{LayerMotion}
use Rattle.motions.specs.PlaneMatrices.{Matrix2}
use Rattle.motions.specs.PlaneSizes.{IsMatrix2Within}
use Rattle.recognition.specs.Changes.{Carries}
use Rattle.recognition.specs.Grid.{grid}
use Rattle.motions.specs.Rationals.{RationalPair}

-- onto the layer type of a number, with a matrix, and with the origin (x, y) on the grid
pub record Change : Type 0 where
  pub number : ℕ
  pub matrix : Matrix2
  pub x : ℕ
  pub y : ℕ

-- the entries are at most 2 in size
abbrev pub IsBoundedMatrix : Matrix2 → Type 0
IsBoundedMatrix p = IsMatrix2Within 2 p

-- there is a layer type of this number
abbrev pub IsTypeNumber : ℕ → Type 0
IsTypeNumber n = (1 ≤ n) × (n ≤ 80)

-- a number of the tables, a matrix with entries of at most 2, and an origin from 0 to below an edge
pub record IsBounded (c : Change) : Type 0 where
  pub number : IsTypeNumber c.number
  pub matrix : IsBoundedMatrix c.matrix
  pub x : c.x < grid
  pub y : c.y < grid

-- the origin (x, y)
abbrev pub origin_at : ℕ → ℕ → RationalPair
origin_at x y = record { x = pos x; y = pos y; over = pos grid }

-- the change carries the section onto its layer type
abbrev pub IsChangeOf : List LayerMotion → Change → Type 0
IsChangeOf section c = Carries section c.number c.matrix (origin_at c.x c.y)

-- ---- the order

-- the sum of the sizes of the entries
abbrev pub size_of : Matrix2 → ℕ
size_of p = nat_abs p.first.x + nat_abs p.first.y + nat_abs p.second.x + nat_abs p.second.y

-- at the first entry where they differ, p has the greater one
abbrev pub IsGreater : Matrix2 → Matrix2 → Type 0
IsGreater p q =
    (q.first.x <ℤ p.first.x)
    ⊎ ((q.first.x ≡ p.first.x) × ((q.first.y <ℤ p.first.y)
    ⊎ ((q.first.y ≡ p.first.y) × ((q.second.x <ℤ p.second.x)
    ⊎ ((q.second.x ≡ p.second.x) × (q.second.y <ℤ p.second.y))))))

-- p stands before q: the smaller sum of sizes, and of equal sums the lexicographically greater matrix
abbrev pub IsMatrixBefore : Matrix2 → Matrix2 → Type 0
IsMatrixBefore p q = (size_of p < size_of q) ⊎ ((size_of p ≡ size_of q) × IsGreater p q)

-- (x, y) stands before (u, v): it is lexicographically less
abbrev pub IsOriginBefore : ℕ → ℕ → ℕ → ℕ → Type 0
IsOriginBefore x y u v = (x < u) ⊎ ((x ≡ u) × (y < v))

-- c stands before d: by the number, then by the matrix, then by the origin
abbrev pub IsBefore : Change → Change → Type 0
IsBefore c d =
    (c.number < d.number)
    ⊎ ((c.number ≡ d.number) × (IsMatrixBefore c.matrix d.matrix
    ⊎ ((c.matrix ≡ d.matrix) × IsOriginBefore c.x c.y d.x d.y)))

-- the first bounded change that carries the section onto a layer type: each other one stands behind it
pub record IsFirstChange (section : List LayerMotion) (c : Change) : Type 0 where
  pub bounded : IsBounded c
  pub carries : IsChangeOf section c
  pub first : (d : Change) → IsBounded d → IsChangeOf section d → (d ≡ c) ⊎ IsBefore c d

-- no bounded change carries the section onto a layer type
abbrev pub HasNoChange : List LayerMotion → Type 0
HasNoChange section = (c : Change) → IsBounded c → ¬ IsChangeOf section c
