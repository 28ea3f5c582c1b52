-- The order of the triples, and the greater images of one.
use Rattle.std.specs.Prelude.{◌⊎◌, ℕ, ℤ, pos, ◌+ℤ◌, ◌-ℤ◌, ◌*ℤ◌}
use Rattle.symmetry.specs.Vectors.{Vector, opposite, row_times}
use Rattle.symmetry.specs.Motions.{Motion}
use Rattle.symmetry.specs.Sizes.{IsVectorWithin}
use Rattle.surveys.specs.Surveys.{IsGreater}

-- how many numbers there are from -n to n
abbrev pub side : ℤ → ℤ
side n = pos 2 *ℤ n +ℤ pos 1

-- how many of the triples with indices at most n in size come before, the greatest first
abbrev pub place_of : ℤ → Vector → ℤ
place_of n v = ((n -ℤ v.x) *ℤ side n +ℤ (n -ℤ v.y)) *ℤ side n +ℤ (n -ℤ v.z)

-- greater than r, with indices at most n in size
abbrev pub IsGreaterWithin : ℕ → Vector → Vector → Type 0
IsGreaterWithin n r s = IsVectorWithin n s × IsGreater s r

-- the image of r or its opposite is so
abbrev pub HasGreaterImage : ℕ → Vector → Motion → Type 0
HasGreaterImage n r m = IsGreaterWithin n r (row_times r m.matrix) ⊎ IsGreaterWithin n r (opposite (row_times r m.matrix))
