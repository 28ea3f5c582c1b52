-- The value of a part, and the letters that stand in it.
use Rattle.std.specs.Prelude.{ℕ, ℤ, pos, neg_ℤ, ◌+ℤ◌, ◌≤ℤ◌, ◌^◌, Bool, true, false, List, [], ◌∷◌}
use Rattle.triplets.specs.declared.marks.Axis.{Axis}
use Rattle.triplets.specs.declared.marks.Axis.TheVariants.{X, Y, Z}
use Rattle.motions.specs.declared.motion.Sign.{Sign}
use Rattle.motions.specs.declared.motion.Sign.TheVariants.{Plus, Minus}
use Rattle.triplets.specs.declared.part.Row.{Row}
use Rattle.triplets.specs.declared.part.Used.{Used}
use Rattle.fractions.specs.declared.part.Part.{Part}
use Rattle.motions.specs.declared.motion.Motion3.{Motion3}
use Rattle.symmetry.specs.Vectors.{Vector}
use Rattle.symmetry.specs.Motions.{Motion}

-- the number with this sign
abbrev pub signed : Sign → ℕ → ℤ
signed Plus n = pos n
signed Minus n = neg_ℤ (pos n)

-- three numbers of parts as an array
abbrev pub parts_with : ℤ → ℤ → ℤ → List Part
parts_with x y z = record { 0 = x } ∷ record { 0 = y } ∷ record { 0 = z } ∷ []

-- nothing was read yet
abbrev pub zero_row : Row
zero_row = record { x = pos 0; y = pos 0; z = pos 0; translation = pos 0 }

-- the third coordinate as it is
abbrev pub axis_row : Row
axis_row = record { x = pos 0; y = pos 0; z = pos 1; translation = pos 0 }

-- the entry of a letter
abbrev pub with_entry : Axis → ℤ → Row → Row
with_entry X v r = record r { x = v }
with_entry Y v r = record r { y = v }
with_entry Z v r = record r { z = v }

-- one more number
abbrev pub with_translation : Sign → ℕ → Row → Row
with_translation s n r = record r { translation = r.translation +ℤ signed s n }

-- no letter stands in the part
abbrev pub unused : Used
unused = record { x = false; y = false; z = false }

-- whether the letter stands in the part
abbrev pub uses : Axis → Used → Bool
uses X u = u.x
uses Y u = u.y
uses Z u = u.z

-- the letter stands in the part now
abbrev pub with_used : Axis → Used → Used
with_used X u = record u { x = true }
with_used Y u = record u { y = true }
with_used Z u = record u { z = true }

-- the row of the matrix part
abbrev pub matrix_row : Row → Vector
matrix_row r = record { x = r.x; y = r.y; z = r.z }

-- the motion with these three parts: part i is row i of the matrix, and entry i of the translation
abbrev pub motion_with : Row → Row → Row → Motion
motion_with q r s = record {
  matrix = record { first = matrix_row q; second = matrix_row r; third = matrix_row s };
  translation = record { x = q.translation; y = r.translation; z = s.translation };
}

-- the same as arrays
abbrev pub motion3_with : Row → Row → Row → Motion3
motion3_with q r s = record {
  w = (q.x ∷ q.y ∷ q.z ∷ []) ∷ (r.x ∷ r.y ∷ r.z ∷ []) ∷ (s.x ∷ s.y ∷ s.z ∷ []) ∷ [];
  t = parts_with q.translation r.translation s.translation;
}

-- one more number can be added
pub record IsRoomy (r : Row) : Type 0 where
  pub above : neg_ℤ (pos (2 ^ 50)) ≤ℤ r.translation
  pub below : r.translation ≤ℤ pos (2 ^ 50)
