-- Vectors and matrices of whole numbers in a plane, and how they multiply.
use Rattle.std.specs.Prelude.{ℤ, pos, negsuc, ◌+ℤ◌, ◌-ℤ◌, ◌*ℤ◌, Bool, ◌&&◌}
use Rattle.std.specs.Ordering.{int_eq}
use Rattle.symmetry.specs.Vectors.{Vector}

-- two whole numbers: a column or a row
pub record Pair : Type 0 where
  pub x : ℤ
  pub y : ℤ

-- four whole numbers, as two rows
pub record Matrix2 : Type 0 where
  pub first : Pair
  pub second : Pair

-- the vector 0
abbrev pub origin2 : Pair
origin2 = record { x = pos 0; y = pos 0 }

-- a vector of the plane, as one of space
abbrev pub in_space : Pair → Vector
in_space v = record { x = v.x; y = v.y; z = pos 0 }

-- the sum of two vectors
abbrev pub plus2 : Pair → Pair → Pair
plus2 v w = record { x = v.x +ℤ w.x; y = v.y +ℤ w.y }

-- the vector with each sign changed
abbrev pub opposite2 : Pair → Pair
opposite2 v = record { x = negsuc 0 *ℤ v.x; y = negsuc 0 *ℤ v.y }

-- the difference of two vectors
abbrev pub minus2 : Pair → Pair → Pair
minus2 v w = record { x = v.x -ℤ w.x; y = v.y -ℤ w.y }

-- a row times a column
abbrev pub dot2 : Pair → Pair → ℤ
dot2 r v = r.x *ℤ v.x +ℤ r.y *ℤ v.y

-- a matrix times a column
abbrev pub image2 : Matrix2 → Pair → Pair
image2 m v = record { x = dot2 m.first v; y = dot2 m.second v }

-- a row times a matrix
abbrev pub row_times2 : Pair → Matrix2 → Pair
row_times2 r m = record { x = r.x *ℤ m.first.x +ℤ r.y *ℤ m.second.x; y = r.x *ℤ m.first.y +ℤ r.y *ℤ m.second.y }

-- a matrix times a matrix
abbrev pub product2 : Matrix2 → Matrix2 → Matrix2
product2 m n = record { first = row_times2 m.first n; second = row_times2 m.second n }

-- the unit matrix
abbrev pub unit2 : Matrix2
unit2 = record { first = record { x = pos 1; y = pos 0 }; second = record { x = pos 0; y = pos 1 } }

-- the determinant
abbrev pub determinant2 : Matrix2 → ℤ
determinant2 m = m.first.x *ℤ m.second.y -ℤ m.first.y *ℤ m.second.x

-- the cofactors, which undo a matrix with the determinant 1
abbrev pub adjugate2 : Matrix2 → Matrix2
adjugate2 m = record {
  first = record { x = m.second.y; y = negsuc 0 *ℤ m.first.y };
  second = record { x = negsuc 0 *ℤ m.second.x; y = m.first.x };
}

-- the cofactors with each sign changed, which undo a matrix with the determinant -1
abbrev pub opposite_adjugate2 : Matrix2 → Matrix2
opposite_adjugate2 m = record {
  first = record { x = negsuc 0 *ℤ m.second.y; y = m.first.y };
  second = record { x = m.second.x; y = negsuc 0 *ℤ m.first.x };
}

-- whether two vectors are equal
abbrev pub same_pair : Pair → Pair → Bool
same_pair v w = int_eq v.x w.x && int_eq v.y w.y

-- whether two matrices are equal
abbrev pub same_matrix2 : Matrix2 → Matrix2 → Bool
same_matrix2 m n = same_pair m.first n.first && same_pair m.second n.second
