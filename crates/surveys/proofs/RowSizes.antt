-- How large the image of a row is.
use Rattle.std.proofs.Common.{◌≡◌, sym, subst, unsigned_abs}
use Rattle.integers.proofs.Ring.{IsWithin-add, IsWithin-mul}
use Rattle.symmetry.specs.Sizes.{IsMatrixWithin, IsVectorWithin}
use Rattle.symmetry.specs.Vectors.{Matrix, Vector, multiple, plus, row_times}
use Rattle.motions.specs.declared.miller.TheConstants.{INDEX}
use Rattle.surveys.specs.Bounds.{largest_row}

row_within : (r : Vector) (m : Matrix) → IsVectorWithin (unsigned_abs INDEX) r → IsMatrixWithin 500 m → IsVectorWithin largest_row (row_times r m)
unfolding plus multiple
row_within r m row small = record {
  x = IsWithin-add (IsWithin-add (IsWithin-mul row.x small.first.x) (IsWithin-mul row.y small.second.x)) (IsWithin-mul row.z small.third.x);
  y = IsWithin-add (IsWithin-add (IsWithin-mul row.x small.first.y) (IsWithin-mul row.y small.second.y)) (IsWithin-mul row.z small.third.y);
  z = IsWithin-add (IsWithin-add (IsWithin-mul row.x small.first.z) (IsWithin-mul row.y small.second.z)) (IsWithin-mul row.z small.third.z);
}

pub image_within : (r : Vector) (m : Matrix) (v : Vector) → v ≡ row_times r m → IsVectorWithin (unsigned_abs INDEX) r → IsMatrixWithin 500 m → IsVectorWithin largest_row v
image_within r m v is row small = subst (IsVectorWithin largest_row) (sym is) (row_within r m row small)
