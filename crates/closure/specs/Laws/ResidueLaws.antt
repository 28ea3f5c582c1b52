-- Vectors of whole edges, and residues modulo these. Proofs: they stand here since an `impl` cites them.
use Rattle.std.proofs.Common.{◌≡◌, ℕ, ◌<◌, ◌↔◌, false, IsTrue, arith, refl, sym, ap, subst, ◌∙◌, lit<, ℤ, negsuc, ◌+ℤ◌, ◌-ℤ◌, ◌*ℤ◌, List, get_or}
use Rattle.std.specs.Prelude.{Contains, unsigned_abs}
use Rattle.std.proofs.lemmas.Bool.{true≢false}
use Rattle.std.proofs.lemmas.List.Folds.{list_any_at}
use Rattle.std.proofs.lemmas.Map.Views.{Contains-from_any}
use Rattle.std.proofs.lemmas.Int.{ints}
use lib.IntN.{*ℤ_comm}
use Rattle.integers.specs.Size.{Divides}
use Rattle.fractions.specs.declared.part.TheConstants.{UNIT}
use Rattle.symmetry.specs.Vectors.{Vector, Matrix, origin, plus, minus, multiple, opposite, dot, image}
use Rattle.symmetry.proofs.VectorLaws.{vector_path, minus-same, minus-exchange, opposite-minus}
use Rattle.symmetry.specs.Frames.{same_vector}
use Rattle.fractions.specs.Parts.{reduced_parts}
use Rattle.fractions.specs.declared.part.Part.{Part}
use Rattle.motions.specs.Views.{parts, part_at}
use Rattle.motions.specs.Laws.MotionLaws.{same_vector-is}
use Rattle.closure.specs.Residues.{IsWhole, residue, has_residue, IsResidue}
use Rattle.integers.proofs.Remainders.{rem-same, same_rem, minus-rem, rem-small, Divides-zero, Divides-add, Divides-multiple}

-- the parts of an edge
abbrev edge : ℕ
edge = unsigned_abs UNIT

edge_positive : 0 < edge
edge_positive = lit< tt

as_sum : (x y : ℤ) → Divides edge (x -ℤ y) → Divides edge (x +ℤ negsuc 0 *ℤ y)
as_sum x y d = subst (Divides edge) (omega (arith, ints)) d

as_difference : (x y : ℤ) → Divides edge (x +ℤ negsuc 0 *ℤ y) → Divides edge (x -ℤ y)
as_difference x y d = subst (Divides edge) (omega (arith, ints)) d

-- ---- vectors of whole edges

pub whole-origin : IsWhole origin
whole-origin = record { x = Divides-zero edge; y = Divides-zero edge; z = Divides-zero edge }

pub whole-plus : (v w : Vector) → IsWhole v → IsWhole w → IsWhole (plus v w)
unfolding plus
whole-plus v w p q = record { x = Divides-add edge v.x w.x p.x q.x; y = Divides-add edge v.y w.y p.y q.y; z = Divides-add edge v.z w.z p.z q.z }

pub whole-multiple : (c : ℤ) (v : Vector) → IsWhole v → IsWhole (multiple c v)
unfolding multiple
whole-multiple c v p = record { x = Divides-multiple edge c v.x p.x; y = Divides-multiple edge c v.y p.y; z = Divides-multiple edge c v.z p.z }

-- UNIT times a vector is one of whole edges
pub whole-multiple_of_unit : (v : Vector) → IsWhole (multiple UNIT v)
unfolding multiple
whole-multiple_of_unit v = record {
  x = record { times = v.x; is = *ℤ_comm UNIT v.x };
  y = record { times = v.y; is = *ℤ_comm UNIT v.y };
  z = record { times = v.z; is = *ℤ_comm UNIT v.z };
}

pub whole-opposite : (v : Vector) → IsWhole v → IsWhole (opposite v)
whole-opposite v = whole-multiple (negsuc 0) v

pub whole-minus : (v w : Vector) → IsWhole v → IsWhole w → IsWhole (minus v w)
whole-minus v w p q = whole-plus v (opposite w) p (whole-opposite w q)

whole-dot : (r v : Vector) → IsWhole v → Divides edge (dot r v)
unfolding dot
whole-dot r v p =
    Divides-add edge (r.x *ℤ v.x +ℤ r.y *ℤ v.y) (r.z *ℤ v.z)
    (Divides-add edge (r.x *ℤ v.x) (r.y *ℤ v.y) (Divides-multiple edge r.x v.x p.x) (Divides-multiple edge r.y v.y p.y))
    (Divides-multiple edge r.z v.z p.z)

pub whole-image : (m : Matrix) (v : Vector) → IsWhole v → IsWhole (image m v)
whole-image m v p = record { x = whole-dot m.first v p; y = whole-dot m.second v p; z = whole-dot m.third v p }

-- ---- residues

pub residue-origin : residue origin ≡ origin
unfolding residue
residue-origin = refl

-- vectors that differ by whole edges have one residue
pub residue-same : (v w : Vector) → IsWhole (minus v w) → residue v ≡ residue w
unfolding residue plus multiple
residue-same v w p =
    vector_path (rem-same edge edge_positive v.x w.x (as_difference v.x w.x p.x)) (rem-same edge edge_positive v.y w.y (as_difference v.y w.y p.y))
    (rem-same edge edge_positive v.z w.z (as_difference v.z w.z p.z))

-- vectors with one residue differ by whole edges
pub whole_from_residues : (v w : Vector) → residue v ≡ residue w → IsWhole (minus v w)
unfolding residue plus multiple
whole_from_residues v w e = record {
  x = as_sum v.x w.x (same_rem edge edge_positive v.x w.x (ap (λ (u : Vector). u.x) e));
  y = as_sum v.y w.y (same_rem edge edge_positive v.y w.y (ap (λ (u : Vector). u.y) e));
  z = as_sum v.z w.z (same_rem edge edge_positive v.z w.z (ap (λ (u : Vector). u.z) e));
}

-- a vector and its residue differ by whole edges
pub whole-minus_residue : (v : Vector) → IsWhole (minus v (residue v))
unfolding residue plus multiple
whole-minus_residue v = record {
  x = as_sum v.x (reduced_parts v.x) (minus-rem edge edge_positive v.x);
  y = as_sum v.y (reduced_parts v.y) (minus-rem edge edge_positive v.y);
  z = as_sum v.z (reduced_parts v.z) (minus-rem edge edge_positive v.z);
}

whole-flip : (v w : Vector) → IsWhole (minus v w) → IsWhole (minus w v)
whole-flip v w p = subst IsWhole (opposite-minus v w) (whole-opposite (minus v w) p)

pub residue-residue : (v : Vector) → residue (residue v) ≡ residue v
residue-residue v = residue-same (residue v) v (whole-flip v (residue v) (whole-minus_residue v))

-- a residue may stand for its vector in a sum
pub residue-plus : (u v w : Vector) → residue u ≡ residue v → residue (plus u w) ≡ residue (plus v w)
residue-plus u v w e =
    residue-same (plus u w) (plus v w)
    (subst IsWhole (minus-exchange u v w w) (whole-plus (minus u v) (minus w w) (whole_from_residues u v e) (subst IsWhole (sym (minus-same w)) whole-origin)))

minus-minus : (u v w : Vector) → opposite (minus v w) ≡ minus (minus u v) (minus u w)
unfolding plus multiple
minus-minus u v w = vector_path (omega (arith, ints)) (omega (arith, ints)) (omega (arith, ints))

pub residue-minus : (u v w : Vector) → residue v ≡ residue w → residue (minus u v) ≡ residue (minus u w)
residue-minus u v w e =
    residue-same (minus u v) (minus u w) (subst IsWhole (minus-minus u v w) (whole-opposite (minus v w) (whole_from_residues v w e)))

-- ---- the residue of a vector is listed

pub has_residue-is : (rs : List Vector) (v : Vector) → IsTrue (has_residue rs v) ↔ Contains rs (residue v)
has_residue-is rs v = (
  λ t. Contains-from_any {eq = λ q r. same_vector r q} (λ x y e. sym ((same_vector-is y x).0 e)) (residue v) rs t,
  λ (k, within, is). list_any_at (λ r. same_vector r (residue v)) rs k (residue v) within ((same_vector-is (get_or rs k (residue v)) (residue v)).1 is),
)

pub has_residue-false : (rs : List Vector) (v : Vector) → has_residue rs v ≡ false → ¬ Contains rs (residue v)
has_residue-false rs v e is = true≢false (sym ((has_residue-is rs v).1 is) ∙ e)

-- an array of reduced entries is its own residue
pub residue-parts : (r : List Part) → IsResidue r → residue (parts r) ≡ parts r
unfolding residue
residue-parts r h =
    vector_path (rem-small edge edge_positive (part_at r 0) h.x.least h.x.below) (rem-small edge edge_positive (part_at r 1) h.y.least h.y.below)
    (rem-small edge edge_positive (part_at r 2) h.z.least h.z.below)
