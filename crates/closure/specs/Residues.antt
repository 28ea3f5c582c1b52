-- Residues of vectors modulo whole cell edges.
use Rattle.std.specs.Prelude.{◌≡◌, pos, ◌≤ℤ◌, ◌<ℤ◌, Bool, IsTrue, List, length, AllPairs, unsigned_abs}
use Rattle.std.specs.List.{list_any}
use Rattle.std.specs.declared.cmp.Ordering.{Ordering}
use Rattle.std.specs.Ordering.{int_cmp, is_lt, ordering_then}
use Rattle.fractions.specs.declared.part.Part.{Part}
use Rattle.fractions.specs.declared.part.TheConstants.{UNIT}
use Rattle.fractions.specs.Parts.{reduced_parts}
use Rattle.integers.specs.Size.{Divides}
use Rattle.symmetry.specs.Vectors.{Vector, origin, plus, opposite}
use Rattle.symmetry.specs.Frames.{same_vector}
use Rattle.motions.specs.Views.{part_at}

-- a vector of whole cell edges
pub record IsWhole (v : Vector) : Type 0 where
  pub x : Divides (unsigned_abs UNIT) v.x
  pub y : Divides (unsigned_abs UNIT) v.y
  pub z : Divides (unsigned_abs UNIT) v.z

-- the vector modulo whole edges, with entries from 0 to below UNIT
unfoldable pub residue : Vector → Vector
residue v = record { x = reduced_parts v.x; y = reduced_parts v.y; z = reduced_parts v.z }

-- whether the residue of the vector is listed
abbrev pub has_residue : List Vector → Vector → Bool
has_residue rs v = list_any (λ r. same_vector r (residue v)) rs

-- the listed residues are a group modulo whole edges
pub record IsResidueGroup (rs : List Vector) : Type 0 where
  pub zero_vector : IsTrue (has_residue rs origin)
  pub sums : (v w : Vector) → IsTrue (has_residue rs v) → IsTrue (has_residue rs w) → IsTrue (has_residue rs (plus v w))
  pub opposites : (v : Vector) → IsTrue (has_residue rs v) → IsTrue (has_residue rs (opposite v))

-- an entry from 0 to below UNIT
pub record IsResidueEntry (part : Part) : Type 0 where
  pub least : pos 0 ≤ℤ part.0
  pub below : part.0 <ℤ UNIT

-- three entries from 0 to below UNIT
pub record IsResidue (r : List Part) : Type 0 where
  pub three : length r ≡ 3
  pub x : IsResidueEntry (record { 0 = part_at r 0 })
  pub y : IsResidueEntry (record { 0 = part_at r 1 })
  pub z : IsResidueEntry (record { 0 = part_at r 2 })

-- the lexicographic order: by x, then by y, then by z
abbrev pub vector_cmp : Vector → Vector → Ordering
vector_cmp v w = ordering_then (int_cmp v.x w.x) (ordering_then (int_cmp v.y w.y) (int_cmp v.z w.z))

-- whether v comes before w in it
abbrev pub is_before : Vector → Vector → Bool
is_before v w = is_lt (vector_cmp v w)

-- each vector comes before all that stand behind it
abbrev pub AreInOrder : List Vector → Type 0
AreInOrder vs = AllPairs (λ v w. IsTrue (is_before v w)) vs
