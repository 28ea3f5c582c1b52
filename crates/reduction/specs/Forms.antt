-- The form of a group and an orientation.
use Rattle.std.specs.Prelude.{◌≡◌, ◌*◌, ℕ, ℤ, pos, negsuc, ◌+ℤ◌, ◌*ℤ◌, ◌≤ℤ◌, ◌<ℤ◌, List, [], ◌∷◌, slice_index_or}
use Rattle.symmetry.specs.Vectors.{Vector, Matrix, dot, image, plus, product}
use Rattle.symmetry.specs.Motions.{Motion}
use Rattle.symmetry.specs.Groups.{Listing}
use Rattle.symmetry.specs.Lists.{AreScanning}
use Rattle.symmetry.specs.Sizes.{IsMatrixWithin}
use Rattle.motions.specs.Views.{vector_of}
use Rattle.reduction.specs.Bounds.{largest_form, largest_short}
use Rattle.reduction.specs.LatticeBases.{combined}
use Rattle.reduction.specs.declared.form.Form.{Form}

-- its matrix, as the code keeps it
abbrev pub form_matrix : Form → Matrix
form_matrix f = record { first = vector_of f.first; second = vector_of f.second; third = vector_of f.third }

-- the sum of (W u).(W v) over a list of motions
abbrev pub form_value : List Motion → Vector → Vector → ℤ
form_value [] u v = pos 0
form_value (m ∷ ms) u v = dot (image m.matrix u) (image m.matrix v) +ℤ form_value ms u v

-- the value of a form at two vectors
abbrev pub by_form : Matrix → Vector → Vector → ℤ
by_form g u v = dot u (image g v)

-- the form is the sum of (W u).(W v) over the list
abbrev pub IsSumOver : List Motion → Matrix → Type 0
IsSumOver ms q = (u v : Vector) → by_form q u v ≡ form_value ms u v

-- the form of the group and the orientation: the sum of (W u).(W v) over the scanning operations
pub record IsFormOf (g : Listing) (r : Vector) (q : Matrix) : Type 0 where
  pub scanning : List Motion
  pub are_scanning : AreScanning g r scanning
  pub is : IsSumOver scanning q

-- a symmetric form that is no less than the sum of the squares of the entries
pub record IsForm (g : Matrix) : Type 0 where
  pub small : IsMatrixWithin largest_form g
  pub symmetric : (u v : Vector) → by_form g u v ≡ by_form g v u
  pub positive : (v : Vector) → dot v v ≤ℤ by_form g v v

-- short by the form
pub record IsShort (g : Matrix) (v : Vector) : Type 0 where
  pub most : by_form g v v ≤ℤ pos (largest_short * largest_short)

-- no multiple of w makes v shorter, where w is not 0
pub record IsUnshortened (g : Matrix) (v w : Vector) : Type 0 where
  pub above : pos 1 ≤ℤ by_form g w w → (pos 2 *ℤ by_form g v w) ≤ℤ by_form g w w
  pub below : pos 1 ≤ℤ by_form g w w → (negsuc 1 *ℤ by_form g v w) ≤ℤ by_form g w w

-- u is v and a multiple of w, and shorter than v
pub record Shortens (g : Matrix) (v w u : Vector) : Type 0 where
  pub times : ℤ
  pub is : u ≡ combined (pos 1) v times w
  pub less : by_form g u u <ℤ by_form g v v

-- ---- what the code computes

-- a column of the matrix, of which the code keeps the rows
abbrev pub column_of : List (List ℤ) → ℕ → Vector
column_of rows j = record {
  x = slice_index_or (slice_index_or rows 0 []) j (pos 0);
  y = slice_index_or (slice_index_or rows 1 []) j (pos 0);
  z = slice_index_or (slice_index_or rows 2 []) j (pos 0);
}

-- the matrix whose rows are the columns of the matrix
abbrev pub transposed : Matrix → Matrix
transposed m = record {
  first = record { x = m.first.x; y = m.second.x; z = m.third.x };
  second = record { x = m.first.y; y = m.second.y; z = m.third.y };
  third = record { x = m.first.z; y = m.second.z; z = m.third.z };
}

-- the sum of two matrices
abbrev pub matrix_sum : Matrix → Matrix → Matrix
matrix_sum m n = record { first = plus m.first n.first; second = plus m.second n.second; third = plus m.third n.third }

-- the form with W^T W added
abbrev pub with_square : Matrix → Matrix → Matrix
with_square q w = matrix_sum q (product (transposed w) w)
