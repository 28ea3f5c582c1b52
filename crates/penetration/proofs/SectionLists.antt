-- The sections of near members, one more, and how large they are.
use Rattle.std.proofs.Common.{◌≡◌, ◌⊎◌, inl, inr, ℕ, zero, suc, ◌+◌, ◌*◌, ◌<◌, ◌^◌, ℤ, pos, ◌≤ℤ◌, List, [], ◌∷◌, ◌++◌, length, take, map, get_or, unsigned_abs, refl, sym, ap, subst, ◌∙◌, arith, lit≤}
use Rattle.std.proofs.lemmas.List.{length-append, map-append, take_more}
use Rattle.fractions.specs.declared.part.TheConstants.{UNIT}
use Rattle.integers.specs.Size.{IsWithin}
use Rattle.integers.proofs.Ring.{IsWithin-more, IsWithin-mul}
use Rattle.symmetry.specs.Vectors.{Vector, multiple}
use Rattle.symmetry.specs.Motions.{Motion, identity, Point}
use Rattle.symmetry.specs.Frames.{Basis}
use Rattle.symmetry.specs.Lists.{motion_at}
use Rattle.symmetry.specs.Sizes.{IsVectorWithin}
use Rattle.motions.specs.declared.motion.Motion3.{Motion3}
use Rattle.motions.specs.declared.rod.RodMotion.{RodMotion}
use Rattle.motions.specs.RodMotions.{RodOperation, rod_identity, rod_of}
use Rattle.motions.specs.Views.{motion_of}
use Rattle.recognition.specs.RationalRods.{rational_rod}
use Rattle.plane_lattice.specs.Bounds.{largest_entry}
use Rattle.plane_lattice.specs.Coordinates.{volume}
use Rattle.penetration.specs.RodHomes.{IsNear}
use Rattle.penetration.specs.RodSections.{ActsAs, AreSections, drift, rod_at}
use Rattle.penetration.proofs.AxisTests.{axis_times_within}
use Rattle.penetration.proofs.StepsBack.{rest_within}

-- ---- sizes

-- a near motion moves the point by less than the axis, so by few parts of it
pub near_parts_within : (f : Basis) (at : Vector) (m : Motion) (t : ℤ) → pos 1 ≤ℤ volume f → IsVectorWithin largest_entry f.tau → IsNear f at m
    → multiple t f.tau ≡ multiple UNIT (drift m at) → IsWithin (2 ^ 40) t
unfolding multiple
near_parts_within f at m t positive axis near e =
    let d = drift m at in
    let unit : IsWithin (unsigned_abs UNIT) UNIT = record { most = lit≤ tt } in
    let x = rest_within near.over d.x near.by f.tau.x largest_entry near.from near.below (λ i. (near.is i).x) axis.x in
    let y = rest_within near.over d.y near.by f.tau.y largest_entry near.from near.below (λ i. (near.is i).y) axis.y in
    let z = rest_within near.over d.z near.by f.tau.z largest_entry near.from near.below (λ i. (near.is i).z) axis.z in
    IsWithin-more
    (axis_times_within f (multiple UNIT d) t (unsigned_abs UNIT * largest_entry) positive e
    (record { x = IsWithin-mul unit x; y = IsWithin-mul unit y; z = IsWithin-mul unit z }))
    (lit≤ tt)

-- ---- lists

push_at : {A : Type 0} (xs : List A) (x d : A) (k : ℕ) → k < length (xs ++ x ∷ [])
    → ((k < length xs) × (get_or (xs ++ x ∷ []) k d ≡ get_or xs k d)) ⊎ ((k ≡ length xs) × (get_or (xs ++ x ∷ []) k d ≡ x))
push_at [] x d zero h = inr (refl, refl)
push_at [] x d (suc k) h = absurd (omega arith)
push_at (y ∷ xs) x d zero h = inl (omega arith, refl)
push_at (y ∷ xs) x d (suc k) h =
    elim (push_at xs x d k (omega arith)) [
      | inl (l, e) ↦ inl (omega arith, e)
      | inr (l, e) ↦ inr (omega arith, e)
    ]

module _ (u : Vector) (f : Basis) (rods : List Motion) (p : Point) where
  abbrev Acts : Motion → RodOperation → Type 0
  Acts m op = ActsAs u f rods p m (rational_rod op)

  pub no_sections : AreSections u f rods p [] []
  no_sections = record { count = refl; each = λ k h. absurd (omega arith) }

  -- one motion more, and what it does
  more_sections : (ms : List Motion) (ops : List RodOperation) (m : Motion) (op : RodOperation) → AreSections u f rods p ms ops → Acts m op
      → AreSections u f rods p (ms ++ m ∷ []) (ops ++ op ∷ [])
  more_sections ms ops m op h acts = record {
    count = length-append ops (op ∷ []) ∙ ap (λ n. n + 1) h.count ∙ sym (length-append ms (m ∷ []));
    each = λ k l.
        elim (push_at ms m identity k l) [
          | inl (before, e) ↦
              elim (push_at ops op rod_identity k (by k l)) [
                | inl (_, e') ↦ subst (Acts (motion_at (ms ++ m ∷ []) k)) (sym e') (subst (λ x. Acts x (rod_at ops k)) (sym e) (h.each k before))
                | inr (at_end, _) ↦ let same = h.count in absurd (omega (arith, before, at_end, same))
              ]
          | inr (at_end, e) ↦
              elim (push_at ops op rod_identity k (by k l)) [
                | inl (before, _) ↦ let same = h.count in absurd (omega (arith, before, at_end, same))
                | inr (_, e') ↦ subst (Acts (motion_at (ms ++ m ∷ []) k)) (sym e') (subst (λ x. Acts x op) (sym e) acts)
              ]
        ];
  }
    where
      by : (k : ℕ) → k < length (ms ++ m ∷ []) → k < length (ops ++ op ∷ [])
      by k l = let a = length-append ms (m ∷ []) in let b = length-append ops (op ∷ []) in let same = h.count in omega (arith, a, b, same, l)

  -- the same for the code's motions
  pub sections_more : (ms : List Motion3) (i : ℕ) (d : Motion3) (section more : List RodMotion) (n : RodMotion) → more ≡ section ++ n ∷ [] → i < length ms
      → AreSections u f rods p (map motion_of (take i ms)) (map rod_of section) → Acts (motion_of (get_or ms i d)) (rod_of n)
      → AreSections u f rods p (map motion_of (take (i + 1) ms)) (map rod_of more)
  sections_more ms i d section more n is h sections acts =
      subst (λ xs. AreSections u f rods p (map motion_of (take (i + 1) ms)) xs) (sym (ap (map rod_of) is ∙ map-append rod_of section (n ∷ [])))
      (subst (λ xs. AreSections u f rods p xs (map rod_of section ++ rod_of n ∷ []))
      (sym (ap (map motion_of) (take_more ms i d h) ∙ map-append motion_of (take i ms) (get_or ms i d ∷ [])))
      (more_sections (map motion_of (take i ms)) (map rod_of section) (motion_of (get_or ms i d)) (rod_of n) sections acts))
