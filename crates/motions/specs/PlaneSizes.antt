-- How large the entries of vectors and matrices in a plane are, and what products of small ones come to.
use Rattle.std.specs.Prelude.{ℕ, ◌*◌, ◌^◌}
use Rattle.integers.specs.Size.{IsWithin}
use Rattle.motions.specs.PlaneMatrices.{Pair, Matrix2}

-- each entry is at most the bound in size
pub record IsPairWithin (bound : ℕ) (v : Pair) : Type 0 where
  pub x : IsWithin bound v.x
  pub y : IsWithin bound v.y

-- each entry of the matrix is at most the bound in size
pub record IsMatrix2Within (bound : ℕ) (m : Matrix2) : Type 0 where
  pub first : IsPairWithin bound m.first
  pub second : IsPairWithin bound m.second

-- an entry of the image of a vector with entries of at most 2^40 under a matrix with entries of at most 500
abbrev pub largest_image2 : ℕ
largest_image2 = 2 * (500 * 2 ^ 40)
