-- What the search for the first change finds, step by step.
use Rattle.std.specs.Prelude.{◌≡◌, ℕ, ◌/◌, ◌%◌, ◌<◌, pos, ◌-ℤ◌}
use Rattle.motions.specs.PlaneMatrices.{Matrix2}
use Rattle.motions.specs.PlaneSizes.{IsMatrix2Within}
use Rattle.recognition.specs.Order.{IsMatrixBefore, size_of}
use Rattle.recognition.specs.RodOrigins.{IsLeastIn, IsNotIn}

-- the matrix with a place in the list of all bounded matrices, the lexicographically greatest first
abbrev pub matrix_at : ℕ → Matrix2
matrix_at i = record {
  first = record { x = pos 2 -ℤ pos (i / 125); y = pos 2 -ℤ pos (i / 25 % 5) };
  second = record { x = pos 2 -ℤ pos (i / 5 % 5); y = pos 2 -ℤ pos (i % 5) };
}

-- the first place of a matrix of this size that has the property at some point, with the least point
pub record IsFirstPlace (C : Matrix2 → ℕ → Type 0) (size i z : ℕ) : Type 0 where
  pub within : i < 625
  pub of_size : size_of (matrix_at i) ≡ size
  pub point : IsLeastIn 96 (C (matrix_at i)) z
  pub first : (j : ℕ) → j < i → size_of (matrix_at j) ≡ size → IsNotIn 96 (C (matrix_at j))

-- no matrix of this size has the property at any point
abbrev pub IsOfNoPlace : (Matrix2 → ℕ → Type 0) → ℕ → Type 0
IsOfNoPlace C size = (j : ℕ) → j < 625 → size_of (matrix_at j) ≡ size → IsNotIn 96 (C (matrix_at j))

-- the first bounded matrix that has the property at some point, with the least point
pub record IsFirstMatrix (C : Matrix2 → ℕ → Type 0) (p : Matrix2) (z : ℕ) : Type 0 where
  pub bounded : IsMatrix2Within 2 p
  pub point : IsLeastIn 96 (C p) z
  pub first : (q : Matrix2) → IsMatrix2Within 2 q → IsMatrixBefore q p → IsNotIn 96 (C q)

-- no bounded matrix has the property at any point
abbrev pub IsOfNoMatrix : (Matrix2 → ℕ → Type 0) → Type 0
IsOfNoMatrix C = (q : Matrix2) → IsMatrix2Within 2 q → IsNotIn 96 (C q)
