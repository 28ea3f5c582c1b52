-- How large the numbers become that products of small motions are made of.
use Rattle.std.specs.Prelude.{ℕ, ◌*◌, ◌^◌}

-- a cofactor of a matrix whose entries are at most 500 in size
abbrev pub largest_cofactor : ℕ
largest_cofactor = 2 * (500 * 500)

-- an entry of the image of a small translation under a matrix of such cofactors
abbrev pub largest_image : ℕ
largest_image = 3 * (largest_cofactor * 2 ^ 40)
