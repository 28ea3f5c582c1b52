-- Proofs that the whole combinations of a and b meet the laws of `Quotient`. They stand here since an `impl` cites them.
use Rattle.std.proofs.Common.{◌≡◌, ◌↔◌, ℤ, zero, suc, pos, negsuc, ◌+ℤ◌, ◌-ℤ◌, ◌*ℤ◌, ◌≤ℤ◌, ◌<ℤ◌, neg_ℤ, refl, sym, ap, subst, ◌∙◌, arith}
use Rattle.std.specs.Int.{int_div_euclid}
use Rattle.std.proofs.lemmas.Int.{ints}
use Rattle.integers.proofs.Order.{small_multiple}
use Rattle.integers.proofs.Ring.{mul_add, mul_neg, mul_zero}
use Rattle.integers.proofs.Spread.{spread}
use Rattle.quotient.specs.Kind.{Kind, IsSame, Keeps, AreShiftsGroup}
use Rattle.symmetry.specs.Vectors.{Vector, Matrix, origin, plus, minus, multiple, dot, cross, image}
use Rattle.symmetry.specs.Motions.{Motion}
use Rattle.symmetry.specs.Frames.{Basis, combination}
use Rattle.symmetry.proofs.VectorLaws.{vector_path, dot-plus}
use Rattle.symmetry.proofs.MatrixLaws.{image-plus, image-multiple}
use Rattle.symmetry.proofs.FrameLaws.{combination-multiple, combination-origin, combination-plus}
use Rattle.motions.specs.declared.motion.Motion3.{Motion3}
use Rattle.motions.specs.Views.{motion_of}
use Rattle.motions.specs.Translations.{IsVectorGroup, modulo_translations}
use Rattle.motions.specs.Laws.TranslationLaws.{keeps_vectors, rest_is_same, same_homes, same_rests, translations_by_meaning, translations_group}
use Rattle.plane_lattice.specs.Coordinates.{volume, scaled, IsPlaneCombination}
use Rattle.plane_lattice.specs.PlaneLattice.{IsPlaneShift, whole_part, home_shift, home_of_motion}

-- ---- coordinates

pub scaled-combination : (f : Basis) (c : Vector) → scaled f (combination f c) ≡ multiple (volume f) c
unfolding dot cross plus multiple
scaled-combination f c =
    vector_path (simp spread (omega (arith, ints))) (simp spread (omega (arith, ints))) (simp spread (omega (arith, ints)))

pub scaled-plus : (f : Basis) (v w : Vector) → scaled f (plus v w) ≡ plus (scaled f v) (scaled f w)
unfolding plus
scaled-plus f v w = vector_path (dot-plus (cross f.b f.tau) v w) (dot-plus (cross f.tau f.a) v w) (dot-plus (cross f.a f.b) v w)

-- ---- quotients rounded down

pub div_euclid_from : (x d : ℤ) → pos 1 ≤ℤ d → pos 0 ≤ℤ (x -ℤ d *ℤ int_div_euclid x d)
div_euclid_from (pos a) (pos zero) h = absurd (omega (arith, ints))
div_euclid_from (pos a) (pos (suc b)) h = omega (arith, ints)
div_euclid_from (negsuc a) (pos zero) h = absurd (omega (arith, ints))
div_euclid_from (negsuc a) (pos (suc b)) h = omega (arith, ints)
div_euclid_from x (negsuc b) h = absurd (omega (arith, ints))

pub div_euclid_below : (x d : ℤ) → pos 1 ≤ℤ d → (x -ℤ d *ℤ int_div_euclid x d) <ℤ d
div_euclid_below (pos a) (pos zero) h = absurd (omega (arith, ints))
div_euclid_below (pos a) (pos (suc b)) h = omega (arith, ints)
div_euclid_below (negsuc a) (pos zero) h = absurd (omega (arith, ints))
div_euclid_below (negsuc a) (pos (suc b)) h = omega (arith, ints)
div_euclid_below x (negsuc b) h = absurd (omega (arith, ints))

-- two quotients with remainders from 0 to below d are one
pub one_quotient : (x d p q : ℤ) → pos 1 ≤ℤ d → pos 0 ≤ℤ (x -ℤ d *ℤ p) → (x -ℤ d *ℤ p) <ℤ d → pos 0 ≤ℤ (x -ℤ d *ℤ q) → (x -ℤ d *ℤ q) <ℤ d → p ≡ q
one_quotient x d p q h from below from' below' =
    let apart : d *ℤ (p -ℤ q) ≡ d *ℤ p -ℤ d *ℤ q = mul_add d p (neg_ℤ q) ∙ ap (λ z. d *ℤ p +ℤ z) (mul_neg d q) in
    let none : p -ℤ q ≡ pos 0 = small_multiple d (p -ℤ q) (omega (arith, ints)) (omega (arith, ints)) in
    omega (arith, ints)

-- whole multiples of d come out of the quotient
pub div_euclid-multiple : (x d k : ℤ) → pos 1 ≤ℤ d → int_div_euclid (x +ℤ d *ℤ k) d ≡ int_div_euclid x d +ℤ k
div_euclid-multiple x d k h =
    let q = int_div_euclid x d in
    let spread_out : d *ℤ (q +ℤ k) ≡ d *ℤ q +ℤ d *ℤ k = mul_add d q k in
    let from = div_euclid_from x d h in
    let below = div_euclid_below x d h in
    one_quotient (x +ℤ d *ℤ k) d (int_div_euclid (x +ℤ d *ℤ k) d) (q +ℤ k) h (div_euclid_from (x +ℤ d *ℤ k) d h) (div_euclid_below (x +ℤ d *ℤ k) d h)
    (omega (arith, ints)) (omega (arith, ints))

-- ---- home

take_apart : (v w c : Vector) → minus (plus v c) (plus w c) ≡ minus v w
unfolding plus multiple
take_apart v w c = vector_path (omega (arith, ints)) (omega (arith, ints)) (omega (arith, ints))

module _ (f : Basis) (spans : pos 1 ≤ℤ volume f) where
  whole_part-combination : (v c : Vector) → c.z ≡ pos 0 → whole_part f (plus v (combination f c)) ≡ plus (whole_part f v) c
  unfolding plus multiple
  whole_part-combination v c flat =
      let e : scaled f (plus v (combination f c)) ≡ plus (scaled f v) (multiple (volume f) c) =
      scaled-plus f v (combination f c) ∙ ap (plus (scaled f v)) (scaled-combination f c) in
      vector_path
      (ap (λ (u : Vector). int_div_euclid u.x (volume f)) e ∙ div_euclid-multiple (scaled f v).x (volume f) c.x spans)
      (ap (λ (u : Vector). int_div_euclid u.y (volume f)) e ∙ div_euclid-multiple (scaled f v).y (volume f) c.y spans)
      (ap (λ z. pos 0 +ℤ z) (sym flat))

  -- the vector reduced does not change with whole combinations of a and b
  pub home_shift-combination : (v c : Vector) → c.z ≡ pos 0 → home_shift f (plus v (combination f c)) ≡ home_shift f v
  home_shift-combination v c flat =
      ap (λ w. minus (plus v (combination f c)) (combination f w)) (whole_part-combination v c flat)
      ∙ ap (minus (plus v (combination f c))) (combination-plus f (whole_part f v) c)
      ∙ take_apart v (combination f (whole_part f v)) (combination f c)

-- the kind of the motions of space, where the shifts are the plane lattice
abbrev pub plane_kind : Basis → Kind
plane_kind f = modulo_translations (IsPlaneCombination f)

-- ---- the laws

-- whole combinations of a and b, their sums and opposites
plane_origin : (f : Basis) → IsPlaneCombination f origin
plane_origin f = (origin, combination-origin f, refl)

plane-plus : (f : Basis) (v w : Vector) → IsPlaneCombination f v → IsPlaneCombination f w → IsPlaneCombination f (plus v w)
unfolding plus
plane-plus f v w (c, e, flat) (d, e', flat') =
    (plus c d, combination-plus f c d ∙ (λ i. plus (e i) (e' i)), (λ i. flat i +ℤ flat' i))

plane-multiple : (f : Basis) (k : ℤ) (v : Vector) → IsPlaneCombination f v → IsPlaneCombination f (multiple k v)
unfolding multiple
plane-multiple f k v (c, e, flat) =
    (multiple k c, combination-multiple f k c ∙ ap (multiple k) e, ap (λ z. k *ℤ z) flat ∙ mul_zero k)

plane_vectors : (f : Basis) → IsVectorGroup (IsPlaneCombination f)
plane_vectors f = record { zero_vector = plane_origin f; sums = plane-plus f; opposites = plane-multiple f (negsuc 0) }

pub plane_shifts : (f : Basis) → AreShiftsGroup (plane_kind f)
plane_shifts f = translations_group (IsPlaneCombination f) (plane_vectors f)

has_whole : (f : Basis) (v : Vector) → IsPlaneCombination f (combination f (whole_part f v))
has_whole f v = (whole_part f v, refl, refl)

pub plane_home_is_same : (f : Basis) (m : Motion3) → IsSame (plane_kind f) (motion_of (home_of_motion f m)) (motion_of m)
plane_home_is_same f m =
    rest_is_same (IsPlaneCombination f) (plane_vectors f) (λ v. combination f (whole_part f v)) (has_whole f) (motion_of m)

pub plane_homes : (f : Basis) → pos 1 ≤ℤ volume f → (m n : Motion3)
    → IsSame (plane_kind f) (motion_of m) (motion_of n) ↔ (motion_of (home_of_motion f m) ≡ motion_of (home_of_motion f n))
plane_homes f spans m n =
    same_homes (IsPlaneCombination f) (home_shift f)
    (same_rests (IsPlaneCombination f) (plane_vectors f) (λ v. combination f (whole_part f v)) (has_whole f) steady) (motion_of m) (motion_of n)
  where
    steady : (v w : Vector) → IsPlaneCombination f w → home_shift f (plus v w) ≡ home_shift f v
    steady v w (c, e, flat) = ap (λ u. home_shift f (plus v u)) (sym e) ∙ home_shift-combination f spans v c flat

-- ---- motions that carry shifts into shifts

pub along_a : (f : Basis) → combination f (record { x = pos 1; y = pos 0; z = pos 0 }) ≡ f.a
unfolding plus multiple
along_a f = vector_path (omega (arith, ints)) (omega (arith, ints)) (omega (arith, ints))

pub along_b : (f : Basis) → combination f (record { x = pos 0; y = pos 1; z = pos 0 }) ≡ f.b
unfolding plus multiple
along_b f = vector_path (omega (arith, ints)) (omega (arith, ints)) (omega (arith, ints))

flat_combination : (f : Basis) (c : Vector) → c.z ≡ pos 0 → combination f c ≡ plus (multiple c.x f.a) (multiple c.y f.b)
unfolding plus multiple
flat_combination f c e =
    vector_path (left (c.x *ℤ f.a.x +ℤ c.y *ℤ f.b.x) f.tau.x) (left (c.x *ℤ f.a.y +ℤ c.y *ℤ f.b.y) f.tau.y) (left (c.x *ℤ f.a.z +ℤ c.y *ℤ f.b.z) f.tau.z)
  where
    left : (s t : ℤ) → s +ℤ c.z *ℤ t ≡ s
    left s t = ap (λ z. s +ℤ z *ℤ t) e ∙ nothing s t
      where
        nothing : (s t : ℤ) → s +ℤ pos 0 *ℤ t ≡ s
        nothing s t = omega (arith, ints)

-- W t is a whole combination of a and b for each that t is
pub image_keeps_plane : (f : Basis) (w : Matrix) → IsPlaneCombination f (image w f.a) → IsPlaneCombination f (image w f.b)
    → (v : Vector) → IsPlaneCombination f v → IsPlaneCombination f (image w v)
image_keeps_plane f w a b v (c, e, flat) =
    let is : image w v ≡ plus (multiple c.x (image w f.a)) (multiple c.y (image w f.b)) =
    ap (image w) (sym e ∙ flat_combination f c flat) ∙ image-plus w (multiple c.x f.a) (multiple c.y f.b)
    ∙ (λ i. plus (image-multiple w c.x f.a i) (image-multiple w c.y f.b i)) in
    subst (IsPlaneCombination f) (sym is)
    (plane-plus f (multiple c.x (image w f.a)) (multiple c.y (image w f.b)) (plane-multiple f c.x (image w f.a) a) (plane-multiple f c.y (image w f.b) b))

-- a motion carries shifts into shifts exactly where it takes a and b into the plane lattice
pub plane_keeps : (f : Basis) (m : Motion)
    → (IsPlaneCombination f (image m.matrix f.a) × IsPlaneCombination f (image m.matrix f.b)) ↔ Keeps (plane_kind f) m
plane_keeps f m =
    let vectors = keeps_vectors (IsPlaneCombination f) m in (
      λ (a, b). vectors.1 (image_keeps_plane f m.matrix a b),
      λ keeps. (
        vectors.0 keeps f.a (record { x = pos 1; y = pos 0; z = pos 0 }, along_a f, refl),
        vectors.0 keeps f.b (record { x = pos 0; y = pos 1; z = pos 0 }, along_b f, refl),
      ),
    )

pub plane_by_meaning : (f : Basis) (m n : Motion3) → motion_of m ≡ motion_of n → IsPlaneShift f (motion_of m) → IsPlaneShift f (motion_of n)
plane_by_meaning f = translations_by_meaning (IsPlaneCombination f)
