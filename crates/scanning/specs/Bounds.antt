-- How large the numbers become that tell whether a motion maps a plane to itself.
use Rattle.std.specs.Prelude.{ℕ, ◌+◌, ◌*◌, unsigned_abs}
use Rattle.fractions.specs.declared.part.TheConstants.{UNIT}
use Rattle.motions.specs.declared.miller.TheConstants.{INDEX}

-- twice a height with a numerator of at most 1000000000, in parts
abbrev pub largest_level : ℕ
largest_level = 2 * unsigned_abs UNIT * 1000000000

-- (hkl).t, for a vector with entries within a bound
abbrev pub largest_shift : ℕ → ℕ
largest_shift bound = unsigned_abs INDEX * bound + unsigned_abs INDEX * bound + unsigned_abs INDEX * bound

-- how many periods are between a level and the shift of a motion with a translation within a cell
abbrev pub largest_count : ℕ
largest_count = largest_level + largest_shift (unsigned_abs UNIT)

-- how many periods a height with a numerator of at most 1000000000 stands above a special one
abbrev pub largest_periods : ℕ
largest_periods = unsigned_abs UNIT * 1000000000
