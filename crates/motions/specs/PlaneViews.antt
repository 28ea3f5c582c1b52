-- The code's arrays as vectors and matrices in a plane.
use Rattle.std.specs.Prelude.{ℤ, pos, List, [], slice_index_or}
use Rattle.motions.specs.PlaneMatrices.{Pair, Matrix2}

-- the two entries of an array of numbers
abbrev pub pair_of : List ℤ → Pair
pair_of xs = record { x = slice_index_or xs 0 (pos 0); y = slice_index_or xs 1 (pos 0) }

-- the two rows of an array of arrays
abbrev pub matrix2_of : List (List ℤ) → Matrix2
matrix2_of rows = record { first = pair_of (slice_index_or rows 0 []); second = pair_of (slice_index_or rows 1 []) }
