-- How large the numbers become.
use Rattle.std.specs.Prelude.{ℕ, ◌+◌, ◌*◌, unsigned_abs}
use Rattle.fractions.specs.declared.part.TheConstants.{UNIT}
use Rattle.motions.specs.declared.miller.TheConstants.{INDEX}

-- an entry of a vector of the first basis
abbrev pub largest_first : ℕ
largest_first = unsigned_abs UNIT

-- (hkl).v of such a vector, and the numbers of the Bézout identities of such values
abbrev pub largest_value : ℕ
largest_value = unsigned_abs INDEX * largest_first + unsigned_abs INDEX * largest_first + unsigned_abs INDEX * largest_first

-- an entry of x u + y v for two such vectors u and v
abbrev pub largest_once : ℕ
largest_once = largest_value * largest_first + largest_value * largest_first

-- and of such a vector and one more
abbrev pub largest_twice : ℕ
largest_twice = largest_value * largest_once + largest_value * largest_once

-- two columns of a matrix multiplied, whose entries are at most 50 in size
abbrev pub largest_columns : ℕ
largest_columns = 3 * (50 * 50)

-- an entry of the form: two such columns, for each operation of a group
abbrev pub largest_form : ℕ
largest_form = 192 * largest_columns

-- the form at a vector that the reduction begins with
abbrev pub largest_begun : ℕ
largest_begun = 3 * (largest_twice * (3 * (largest_form * largest_twice)))

-- an entry of a vector that is shortened
abbrev pub largest_short : ℕ
largest_short = 6 * (1200 * largest_twice)

-- a row of the form times such a vector, and the form at two of them
abbrev pub largest_along : ℕ
largest_along = largest_form * largest_short + largest_form * largest_short + largest_form * largest_short

abbrev pub largest_form_value : ℕ
largest_form_value = largest_short * largest_along + largest_short * largest_along + largest_short * largest_along

-- a determinant of two rows of two entries of such vectors
abbrev pub largest_minor : ℕ
largest_minor = largest_short * largest_short + largest_short * largest_short
