-- The code's arrays as vectors, matrices and motions.
use Rattle.std.specs.Prelude.{ℕ, ℤ, pos, List, [], ◌∷◌, slice_index_or, map}
use Rattle.fractions.specs.declared.part.Part.{Part}
use Rattle.motions.specs.declared.motion.Motion3.{Motion3}
use Rattle.motions.specs.declared.listed.Listed.{Listed}
use Rattle.motions.specs.declared.miller.Miller.{Miller}
use Rattle.symmetry.specs.Vectors.{Vector, Matrix}
use Rattle.symmetry.specs.Motions.{Motion}
use Rattle.symmetry.specs.Groups.{Listing}

-- the three entries of an array of numbers
abbrev pub vector_of : List ℤ → Vector
vector_of xs = record { x = slice_index_or xs 0 (pos 0); y = slice_index_or xs 1 (pos 0); z = slice_index_or xs 2 (pos 0) }

-- the three rows of an array of arrays
abbrev pub matrix_of : List (List ℤ) → Matrix
matrix_of rows = record {
  first = vector_of (slice_index_or rows 0 []);
  second = vector_of (slice_index_or rows 1 []);
  third = vector_of (slice_index_or rows 2 []);
}

-- the number of parts at a place of an array
abbrev pub part_at : List Part → ℕ → ℤ
part_at ps i = (slice_index_or ps i (record { 0 = pos 0 })).0

-- the vector that an array of parts is
abbrev pub parts : List Part → Vector
parts ps = record { x = part_at ps 0; y = part_at ps 1; z = part_at ps 2 }

-- the array with the entries of a vector
abbrev pub array_of : Vector → List Part
array_of v = record { 0 = v.x } ∷ record { 0 = v.y } ∷ record { 0 = v.z } ∷ []

-- the motion that a Motion3 is
abbrev pub motion_of : Motion3 → Motion
motion_of m = record { matrix = matrix_of m.w; translation = parts m.t }

-- the row (hkl)
abbrev pub row_of : Miller → Vector
row_of plane = record { x = plane.h; y = plane.k; z = plane.l }

-- what a Listed lists
abbrev pub listing_of : Listed → Listing
listing_of l = record { ops = map motion_of l.ops.items; centrings = map parts l.centrings.items }
