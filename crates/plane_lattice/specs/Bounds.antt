-- How large the numbers become that coordinates in a basis are made of.
use Rattle.std.specs.Prelude.{ℕ, ◌+◌, ◌*◌, ◌^◌, unsigned_abs}
use Rattle.fractions.specs.declared.part.TheConstants.{UNIT}
use Rattle.motions.specs.declared.miller.TheConstants.{INDEX}

-- an entry of a vector of a basis
abbrev pub largest_entry : ℕ
largest_entry = 1000 * unsigned_abs UNIT

-- an entry of the cross product of two such vectors
abbrev pub largest_cross : ℕ
largest_cross = 2 * (largest_entry * largest_entry)

-- such a cross product times a vector
abbrev pub largest_scaled : ℕ
largest_scaled = 3 * (largest_cross * 2 ^ 52)

-- an entry of a combination of a basis with coefficients of that size
abbrev pub largest_combined : ℕ
largest_combined = 3 * (largest_scaled * largest_entry)

-- an entry of the image of such a vector under a matrix whose entries are at most 500 in size
abbrev pub largest_turned : ℕ
largest_turned = 1500 * largest_entry

-- an entry of the sum of such images, one for each operation of a group
abbrev pub largest_total : ℕ
largest_total = 192 * largest_turned

-- (hkl).tau
abbrev pub largest_period : ℕ
largest_period = unsigned_abs INDEX * largest_entry + unsigned_abs INDEX * largest_entry + unsigned_abs INDEX * largest_entry

-- (hkl).w, for a translation that is at most 2^20 parts in size
abbrev pub largest_level : ℕ
largest_level = unsigned_abs INDEX * 2 ^ 20 + unsigned_abs INDEX * 2 ^ 20 + unsigned_abs INDEX * 2 ^ 20

-- an entry of the translation of such a motion at home
abbrev pub largest_home : ℕ
largest_home = largest_entry + largest_entry + largest_level * largest_entry
