-- How large the numbers become.
use Rattle.std.specs.Prelude.{ℕ, ◌+◌, ◌*◌, unsigned_abs}
use Rattle.motions.specs.declared.miller.TheConstants.{INDEX}

-- an index of the image of an orientation under a matrix whose entries are at most 500 in size
abbrev pub largest_row : ℕ
largest_row = unsigned_abs INDEX * 500 + unsigned_abs INDEX * 500 + unsigned_abs INDEX * 500
