-- What the search finds, step by step.
use Rattle.std.specs.Prelude.{◌≡◌, ◌⊎◌, ℕ, ◌<◌, List, All, AllPairs, Bool, Contains}
use Rattle.motions.specs.PlaneMatrices.{Matrix2}
use Rattle.motions.specs.PlaneViews.{matrix2_of}
use Rattle.recognition.specs.Grid.{grid}
use Rattle.recognition.specs.declared.found.Found.{Found}
use Rattle.recognition.specs.Agreement.{Pairing}
use Rattle.recognition.specs.Order.{Change, IsBoundedMatrix, IsMatrixBefore, IsOriginBefore}
use Rattle.recognition.specs.Listed.{TakesLattice}

-- ---- origins

-- the least number of the grid with the property
pub record IsLeast (C : ℕ → Type 0) (y : ℕ) : Type 0 where
  pub within : y < grid
  pub has : C y
  pub least : (v : ℕ) → v < y → ¬ (C v)

-- no number of the grid has the property
abbrev pub HasNoNumber : (ℕ → Type 0) → Type 0
HasNoNumber C = (v : ℕ) → v < grid → ¬ (C v)

-- x and y are from 0 to below grid
abbrev pub IsOrigin : ℕ → ℕ → Type 0
IsOrigin x y = (x < grid) × (y < grid)

-- the lexicographically least origin with the property
pub record IsLeastOrigin (C : ℕ → ℕ → Type 0) (x y : ℕ) : Type 0 where
  pub origin : IsOrigin x y
  pub has : C x y
  pub least : (u v : ℕ) → IsOrigin u v → C u v → ((u ≡ x) × (v ≡ y)) ⊎ IsOriginBefore x y u v

-- no origin has the property
abbrev pub IsNowhere : (ℕ → ℕ → Type 0) → Type 0
IsNowhere C = (u v : ℕ) → IsOrigin u v → ¬ (C u v)

-- ---- matrices

-- the bounded matrices that take a type's lattice onto the whole vectors, in their order
pub record IsMatrixTable (centred : Bool) (matrices : List Matrix2) : Type 0 where
  pub bounded : All IsBoundedMatrix matrices
  pub takes : All (TakesLattice centred) matrices
  pub order : AllPairs IsMatrixBefore matrices
  pub complete : (p : Matrix2) → IsBoundedMatrix p → TakesLattice centred p → Contains matrices p

-- the first bounded matrix that has the property at some origin, with the least origin
pub record IsFirstMatrix (C : Matrix2 → ℕ → ℕ → Type 0) (p : Matrix2) (x y : ℕ) : Type 0 where
  pub bounded : IsBoundedMatrix p
  pub origin : IsLeastOrigin (C p) x y
  pub first : (q : Matrix2) → IsBoundedMatrix q → IsMatrixBefore q p → IsNowhere (C q)

-- no bounded matrix has the property at any origin
abbrev pub HasNoMatrix : (Matrix2 → ℕ → ℕ → Type 0) → Type 0
HasNoMatrix C = (q : Matrix2) → IsBoundedMatrix q → IsNowhere (C q)

-- ---- changes

-- the change that a Found is
abbrev pub change_of : Found → Change
change_of f = record { number = f.number; matrix = matrix2_of f.p; x = f.x; y = f.y }

-- its type and its matrix
abbrev pub pairing_of : Found → Pairing
pairing_of f = record { number = f.number; matrix = matrix2_of f.p }
