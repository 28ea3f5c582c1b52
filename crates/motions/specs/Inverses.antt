-- Determinants and cofactors.
use Rattle.std.specs.Prelude.{ℤ}
use Rattle.symmetry.specs.Vectors.{Vector, Matrix, dot, cross}

-- the determinant
abbrev pub determinant : Matrix → ℤ
determinant m = dot m.first (cross m.second m.third)

-- the matrix with these columns
abbrev pub from_columns : Vector → Vector → Vector → Matrix
from_columns a b c = record {
  first = record { x = a.x; y = b.x; z = c.x };
  second = record { x = a.y; y = b.y; z = c.y };
  third = record { x = a.z; y = b.z; z = c.z };
}

-- the cofactors, which undo a matrix with the determinant 1
abbrev pub adjugate : Matrix → Matrix
adjugate m = from_columns (cross m.second m.third) (cross m.third m.first) (cross m.first m.second)

-- the cofactors with each sign changed, which undo a matrix with the determinant -1
abbrev pub opposite_adjugate : Matrix → Matrix
opposite_adjugate m = from_columns (cross m.third m.second) (cross m.first m.third) (cross m.second m.first)
