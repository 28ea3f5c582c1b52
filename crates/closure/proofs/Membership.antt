-- The tests of the code: arrays of parts as vectors, and residues that are listed.
use Rattle.std.proofs.Common.{◌≡◌, ℕ, suc, ◌<◌, Bool, ◌||◌, arith, refl, ap, ◌∙◌, List, [], ◌∷◌, length, get_or, map, pos}
use Rattle.std.specs.List.{list_any}
use Rattle.std.specs.Ordering.{int_eq}
use lib.Pointwise.{pointwise}
use Rattle.integers.proofs.Booleans.{bracketed}
use Rattle.fractions.specs.declared.part.Part.{Part}
use Rattle.symmetry.specs.Vectors.{Vector}
use Rattle.symmetry.specs.Frames.{same_vector}
use Rattle.quotient.proofs.ListLaws.{three_items}
use Rattle.motions.specs.Views.{parts, part_at}
use Rattle.closure.specs.Residues.{residue, has_residue}

-- ---- arrays of three parts

abbrev none : Part
none = record { 0 = pos 0 }

abbrev same_part : Part → Part → Bool
same_part a b = int_eq a.0 b.0

-- equality entry by entry is that of the vectors
pointwise-parts : (r s : List Part) → length r ≡ 3 → length s ≡ 3 → pointwise same_part r s ≡ same_vector (parts r) (parts s)
pointwise-parts r s h k =
    (λ i. pointwise same_part (three_items r none h i) (three_items s none k i))
    ∙ bracketed (int_eq (part_at r 0) (part_at s 0)) (int_eq (part_at r 1) (part_at s 1)) (int_eq (part_at r 2) (part_at s 2))

pub list_any-parts : (rs : List (List Part)) (s : List Part) (v : Vector) → ((i : ℕ) → i < length rs → length (get_or rs i []) ≡ 3)
    → length s ≡ 3 → parts s ≡ residue v → list_any (λ r. pointwise same_part r s) rs ≡ has_residue (map parts rs) v
list_any-parts [] s v h k e = refl
list_any-parts (r ∷ rs) s v h k e =
    let here = pointwise-parts r s (h 0 (omega arith)) k ∙ ap (same_vector (parts r)) e in
    let rest = list_any-parts rs s v (λ i l. h (suc i) (omega arith)) k e in
    λ j. here j || rest j
