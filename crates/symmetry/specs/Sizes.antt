-- How large the entries of vectors and motions are.
use Rattle.std.specs.Prelude.{ℕ, ◌^◌}
use Rattle.integers.specs.Size.{IsWithin}
use Rattle.symmetry.specs.Vectors.{Vector, Matrix}
use Rattle.symmetry.specs.Motions.{Motion}

-- each entry is at most the bound in size
pub record IsVectorWithin (bound : ℕ) (v : Vector) : Type 0 where
  pub x : IsWithin bound v.x
  pub y : IsWithin bound v.y
  pub z : IsWithin bound v.z

-- each entry of the matrix is at most the bound in size
pub record IsMatrixWithin (bound : ℕ) (m : Matrix) : Type 0 where
  pub first : IsVectorWithin bound m.first
  pub second : IsVectorWithin bound m.second
  pub third : IsVectorWithin bound m.third

-- a small motion: matrix entries at most 500 in size, and translations at most 2^40 parts
pub record IsSmall (m : Motion) : Type 0 where
  pub matrix : IsMatrixWithin 500 m.matrix
  pub translation : IsVectorWithin (2 ^ 40) m.translation
