-- The laws of motions modulo the translations by a group of vectors. They stand here since an `impl` cites them.
use Rattle.std.proofs.Common.{◌≡◌, ◌↔◌, refl, sym, ap, subst, ◌∙◌, ℤ, negsuc, ◌+ℤ◌, ◌*ℤ◌, arith}
use Rattle.std.proofs.lemmas.Int.{ints}
use Rattle.quotient.specs.Kind.{Kind, AreShiftsGroup, IsSame, Keeps}
use Rattle.quotient.proofs.ShiftGroups.{keeps_by, same_by, shifts_group}
use Rattle.symmetry.specs.Vectors.{Vector, origin, plus, minus, multiple, opposite, image}
use Rattle.symmetry.specs.Motions.{Motion, translation}
use Rattle.symmetry.proofs.VectorLaws.{minus-plus, minus-same, opposite-plus_same, plus_comm, plus-minus_first, vector_path}
use Rattle.symmetry.proofs.MotionLaws.{followed_by-translation, followed_by-translation_once, motion_path, translation-followed_by}
use Rattle.motions.specs.declared.motion.Motion3.{Motion3}
use Rattle.motions.specs.Translations.{IsTranslationBy, IsVectorGroup, modulo_translations, translation_by}
use Rattle.motions.specs.Views.{motion_of}

-- where v without p is w without q, v without w is p without q
exchanged : (v w p q : Vector) → minus v p ≡ minus w q → minus v w ≡ minus p q
unfolding plus multiple
exchanged v w p q e =
    let x : v.x +ℤ negsuc 0 *ℤ p.x ≡ w.x +ℤ negsuc 0 *ℤ q.x = ap (λ (u : Vector). u.x) e in
    let y : v.y +ℤ negsuc 0 *ℤ p.y ≡ w.y +ℤ negsuc 0 *ℤ q.y = ap (λ (u : Vector). u.y) e in
    let z : v.z +ℤ negsuc 0 *ℤ p.z ≡ w.z +ℤ negsuc 0 *ℤ q.z = ap (λ (u : Vector). u.z) e in
    vector_path (omega (arith, ints)) (omega (arith, ints)) (omega (arith, ints))

module _ (In : Vector → Type 0) where
  abbrev K : Kind
  K = modulo_translations In

  is_shift : (v : Vector) → In v → K.IsShift (translation v)
  is_shift v h = (translation_by v, record { matrix = refl; translation = h }, refl)

  shift_is : (m : Motion) → K.IsShift m → (v : Vector) × In v × (m ≡ translation v)
  shift_is m (s, h, e) = ((motion_of s).translation, h.translation, sym e ∙ motion_path h.matrix refl)

  pub translations_by_meaning : (m n : Motion3) → motion_of m ≡ motion_of n → IsTranslationBy In (motion_of m) → IsTranslationBy In (motion_of n)
  translations_by_meaning m n e h = subst (IsTranslationBy In) e h

  pub translations_group : IsVectorGroup In → AreShiftsGroup K
  translations_group group =
      shifts_group K translation In is_shift shift_is origin plus opposite refl (λ v w. followed_by-translation (translation v) w)
      minus-same opposite-plus_same group.zero_vector group.sums group.opposites

  -- ---- sameness

  pub same_by_translation : (m n : Motion) → IsSame K m n ↔ ((m.matrix ≡ n.matrix) × In (minus m.translation n.translation))
  same_by_translation m n = (
    λ s.
        let (v, h, is) = (same_by K translation In is_shift shift_is m n).0 s in
        let e : m ≡ record { matrix = n.matrix; translation = plus n.translation v } = is ∙ followed_by-translation n v in (
          ap (λ (k : Motion). k.matrix) e,
          subst In (sym (ap (λ (k : Motion). minus k.translation n.translation) e ∙ plus-minus_first n.translation v)) h,
        ),
    λ (e, h).
        let v = minus m.translation n.translation in
        (same_by K translation In is_shift shift_is m n).1
        (v, h, motion_path e (sym (minus-plus m.translation n.translation) ∙ plus_comm v n.translation) ∙ sym (followed_by-translation n v)),
  )

  -- the motion with its translation taken to this
  abbrev moved : (Vector → Vector) → Motion → Motion
  moved home m = record { matrix = m.matrix; translation = home m.translation }

  -- a home that two vectors have in common exactly where they differ by a vector of the set
  pub same_homes : (home : Vector → Vector) → ((v w : Vector) → In (minus v w) ↔ (home v ≡ home w)) → (m n : Motion)
      → IsSame K m n ↔ (moved home m ≡ moved home n)
  same_homes home by m n =
      let same = same_by_translation m n in (
        λ s. let (e, h) = same.0 s in motion_path e ((by m.translation n.translation).0 h),
        λ e. same.1 (ap (λ (k : Motion). k.matrix) e, (by m.translation n.translation).1 (ap (λ (k : Motion). k.translation) e)),
      )

  -- a home that is what is left of a vector without one of the set
  module _ (group : IsVectorGroup In) (whole : Vector → Vector) (has_whole : (v : Vector) → In (whole v)) where
    pub rest_is_same : (m : Motion) → IsSame K (moved (λ v. minus v (whole v)) m) m
    rest_is_same m =
        let back = opposite (whole m.translation) in
        (same_by K translation In is_shift shift_is (record { matrix = m.matrix; translation = plus m.translation back }) m).1
        (back, group.opposites (whole m.translation) (has_whole m.translation), sym (followed_by-translation m back))

    pub same_rests : ((v w : Vector) → In w → minus (plus v w) (whole (plus v w)) ≡ minus v (whole v)) → (v w : Vector)
        → In (minus v w) ↔ (minus v (whole v) ≡ minus w (whole w))
    same_rests steady v w = (
      λ h. ap (λ u. minus u (whole u)) (sym (minus-plus v w) ∙ plus_comm (minus v w) w) ∙ steady w (minus v w) h,
      λ e.
          subst In (sym (exchanged v w (whole v) (whole w) e))
          (group.sums (whole v) (opposite (whole w)) (has_whole v) (group.opposites (whole w) (has_whole w))),
    )

  -- ---- which motions carry shifts into shifts

  pub keeps_vectors : (m : Motion) → Keeps K m ↔ ((v : Vector) → In v → In (image m.matrix v))
  keeps_vectors m =
      keeps_by K translation In is_shift shift_is m (image m.matrix) (translation-followed_by m) (followed_by-translation_once m)
