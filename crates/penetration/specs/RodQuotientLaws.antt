-- Proofs that the whole multiples of an axis meet the laws of `Quotient`. They stand here since an `impl` cites them.
use Rattle.std.proofs.Common.{◌≡◌, ◌↔◌, ℤ, pos, negsuc, ◌+ℤ◌, ◌*ℤ◌, ◌≤ℤ◌, [], ◌∷◌, refl, sym, ap, subst, ◌∙◌}
use Rattle.std.specs.Int.{int_div_euclid}
use Rattle.integers.proofs.Solver.{Expr.{var, num, ◌⊕◌, ◌⊗◌}, ring}
use Rattle.quotient.specs.Kind.{Kind, IsSame, Keeps, AreShiftsGroup}
use Rattle.symmetry.specs.Vectors.{Vector, origin, plus, minus, multiple, dot, cross, image}
use Rattle.symmetry.specs.Motions.{Motion}
use Rattle.symmetry.specs.Frames.{Basis}
use Rattle.symmetry.proofs.VectorLaws.{vector_path, dot-plus, dot-multiple, multiple-multiple, multiple-one, multiple-zero, plus-multiple}
use Rattle.symmetry.proofs.MatrixLaws.{image-multiple}
use Rattle.motions.specs.declared.motion.Motion3.{Motion3}
use Rattle.motions.specs.Views.{motion_of}
use Rattle.motions.specs.Translations.{IsVectorGroup, modulo_translations}
use Rattle.motions.specs.Laws.TranslationLaws.{keeps_vectors, rest_is_same, same_homes, same_rests, translations_by_meaning, translations_group}
use Rattle.plane_lattice.specs.Coordinates.{volume}
use Rattle.plane_lattice.specs.Laws.QuotientLaws.{div_euclid-multiple}
use Rattle.penetration.specs.RodHomes.{IsAlongAxis, IsAxisShift, rod_home_of, rod_home_shift, whole_turns}

-- the kind of the motions of space, where the shifts are the whole multiples of the axis
abbrev pub axis_kind : Basis → Kind
axis_kind f = modulo_translations (IsAlongAxis f)

-- ---- whole multiples of the axis, their sums and opposites

axis_origin : (f : Basis) → IsAlongAxis f origin
axis_origin f = (pos 0, multiple-zero f.tau)

axis-plus : (f : Basis) (v w : Vector) → IsAlongAxis f v → IsAlongAxis f w → IsAlongAxis f (plus v w)
axis-plus f v w (k, e) (l, h) = (k +ℤ l, plus-multiple k l f.tau ∙ (λ i. plus (e i) (h i)))

axis-multiple : (f : Basis) (c : ℤ) (v : Vector) → IsAlongAxis f v → IsAlongAxis f (multiple c v)
axis-multiple f c v (k, e) = (c *ℤ k, sym (multiple-multiple c k f.tau) ∙ ap (multiple c) e)

axis_vectors : (f : Basis) → IsVectorGroup (IsAlongAxis f)
axis_vectors f = record { zero_vector = axis_origin f; sums = axis-plus f; opposites = axis-multiple f (negsuc 0) }

has_turns : (f : Basis) (v : Vector) → IsAlongAxis f (multiple (whole_turns f v) f.tau)
has_turns f v = (whole_turns f v, refl)

-- ---- the laws

pub axis_by_meaning : (f : Basis) (m n : Motion3) → motion_of m ≡ motion_of n → IsAxisShift f (motion_of m) → IsAxisShift f (motion_of n)
axis_by_meaning f = translations_by_meaning (IsAlongAxis f)

pub axis_shifts : (f : Basis) → AreShiftsGroup (axis_kind f)
axis_shifts f = translations_group (IsAlongAxis f) (axis_vectors f)

pub axis_home_is_same : (f : Basis) (m : Motion3) → IsSame (axis_kind f) (motion_of (rod_home_of f m)) (motion_of m)
axis_home_is_same f m =
    rest_is_same (IsAlongAxis f) (axis_vectors f) (λ v. multiple (whole_turns f v) f.tau) (has_turns f) (motion_of m)

without : (v : Vector) (q k : ℤ) (c : Vector) → minus (plus v (multiple k c)) (multiple (q +ℤ k) c) ≡ minus v (multiple q c)
unfolding plus multiple
without v q k c = vector_path (one v.x c.x) (one v.y c.y) (one v.z c.z)
  where
    one : (x c : ℤ) → (x +ℤ k *ℤ c) +ℤ negsuc 0 *ℤ ((q +ℤ k) *ℤ c) ≡ x +ℤ negsuc 0 *ℤ (q *ℤ c)
    one x c =
        ring (x ∷ c ∷ q ∷ k ∷ []) ((var 0 ⊕ var 3 ⊗ var 1) ⊕ num (negsuc 0) ⊗ ((var 2 ⊕ var 3) ⊗ var 1)) (var 0 ⊕ num (negsuc 0) ⊗ (var 2 ⊗ var 1)) tt

-- whole axes do not change the vector without its whole axes
moved_home : (f : Basis) → pos 1 ≤ℤ volume f → (v : Vector) (k : ℤ) → rod_home_shift f (plus v (multiple k f.tau)) ≡ rod_home_shift f v
moved_home f spans v k =
    ap (λ q. minus (plus v (multiple k f.tau)) (multiple q f.tau)) turns ∙ without v (whole_turns f v) k f.tau
  where
    numbers : (s d : ℤ) → s +ℤ k *ℤ d ≡ s +ℤ d *ℤ k
    numbers s d = ring (s ∷ d ∷ k ∷ []) (var 0 ⊕ var 2 ⊗ var 1) (var 0 ⊕ var 1 ⊗ var 2) tt

    moved : dot (cross f.a f.b) (plus v (multiple k f.tau)) ≡ dot (cross f.a f.b) v +ℤ volume f *ℤ k
    moved =
        dot-plus (cross f.a f.b) v (multiple k f.tau) ∙ ap (λ z. dot (cross f.a f.b) v +ℤ z) (dot-multiple (cross f.a f.b) k f.tau)
        ∙ numbers (dot (cross f.a f.b) v) (volume f)

    turns : whole_turns f (plus v (multiple k f.tau)) ≡ whole_turns f v +ℤ k
    turns = ap (λ n. int_div_euclid n (volume f)) moved ∙ div_euclid-multiple (dot (cross f.a f.b) v) (volume f) k spans

pub axis_homes : (f : Basis) → pos 1 ≤ℤ volume f → (m n : Motion3)
    → IsSame (axis_kind f) (motion_of m) (motion_of n) ↔ (motion_of (rod_home_of f m) ≡ motion_of (rod_home_of f n))
axis_homes f spans m n =
    same_homes (IsAlongAxis f) (rod_home_shift f)
    (same_rests (IsAlongAxis f) (axis_vectors f) (λ v. multiple (whole_turns f v) f.tau) (has_turns f) steady) (motion_of m) (motion_of n)
  where
    steady : (v w : Vector) → IsAlongAxis f w → rod_home_shift f (plus v w) ≡ rod_home_shift f v
    steady v w (k, e) = ap (λ u. rod_home_shift f (plus v u)) (sym e) ∙ moved_home f spans v k

-- a motion carries shifts into shifts exactly where it takes the axis to a multiple of the axis
pub axis_keeps : (f : Basis) (m : Motion) → IsAlongAxis f (image m.matrix f.tau) ↔ Keeps (axis_kind f) m
axis_keeps f m =
    let vectors = keeps_vectors (IsAlongAxis f) m in (
      λ along. vectors.1 (λ v (k, e). subst (IsAlongAxis f) (sym (image-multiple m.matrix k f.tau) ∙ ap (image m.matrix) e) (axis-multiple f k (image m.matrix f.tau) along)),
      λ keeps. vectors.0 keeps f.tau (pos 1, multiple-one f.tau),
    )
