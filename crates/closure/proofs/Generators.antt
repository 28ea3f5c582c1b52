-- The vectors that a lattice is made of, collected from what is listed.
use Rattle.std.proofs.Common.{◌≡◌, ℕ, ◌+◌, ◌<◌, ◌↔◌, ◌⊎◌, inl, inr, refl, sym, ap, subst, ◌∙◌, List, [], ◌∷◌, ◌++◌, length, get_or, map, take}
use Rattle.std.specs.Prelude.{Contains}
use Rattle.std.proofs.lemmas.List.{map_more, map-append}
use Rattle.std.proofs.lemmas.List.Elements.{Contains-append_left, Contains-push, Contains-push_cases}
use Rattle.fractions.specs.declared.part.Part.{Part}
use Rattle.symmetry.specs.Vectors.{Vector, unit_matrix}
use Rattle.symmetry.specs.Motions.{Motion, translation}
use Rattle.symmetry.specs.Groups.{Listing, Generates}
use Rattle.symmetry.proofs.MotionLaws.{motion_path}
use Rattle.quotient.proofs.ListLaws.{nothing_contained}
use Rattle.motions.specs.declared.motion.Motion3.{Motion3}
use Rattle.motions.specs.Views.{parts, motion_of}
use Rattle.closure.specs.Fineness.{centrings_alone}

-- the vectors are the centring vectors and those of the listed translations
pub record CollectsTranslations (centrings : List Vector) (ops : List Motion) (vectors : List Vector) : Type 0 where
  pub same : (v : Vector) → Contains vectors v ↔ (Contains centrings v ⊎ Contains ops (translation v))

pub collects_none : (centrings vectors : List Vector) → vectors ≡ centrings → CollectsTranslations centrings [] vectors
collects_none centrings vectors e = record {
  same = λ v. (
    λ is. inl (subst (λ vs. Contains vs v) e is),
    λ is. elim is [ inl old ↦ subst (λ vs. Contains vs v) (sym e) old | inr none ↦ absurd (nothing_contained (translation v) none) ],
  );
}

module _ (centrings : List Vector) (ops : List Motion) (vectors : List Vector) (m : Motion) (h : CollectsTranslations centrings ops vectors) where
  -- a translation is taken
  pub collects_more : m.matrix ≡ unit_matrix → CollectsTranslations centrings (ops ++ m ∷ []) (vectors ++ m.translation ∷ [])
  collects_more e = record { same = λ v. (to v, from v) }
    where
      is_translation : m ≡ translation m.translation
      is_translation = motion_path e refl

      to : (v : Vector) → Contains (vectors ++ m.translation ∷ []) v → Contains centrings v ⊎ Contains (ops ++ m ∷ []) (translation v)
      to v is = elim (Contains-push_cases vectors m.translation v is) [
        | inl old ↦ elim ((h.same v).0 old) [ inl c ↦ inl c | inr o ↦ inr (Contains-append_left ops (m ∷ []) (translation v) o) ]
        | inr new ↦ inr (subst (Contains (ops ++ m ∷ [])) (is_translation ∙ ap translation new) (Contains-push ops m))
      ]

      from : (v : Vector) → Contains centrings v ⊎ Contains (ops ++ m ∷ []) (translation v) → Contains (vectors ++ m.translation ∷ []) v
      from v (inl c) = Contains-append_left vectors (m.translation ∷ []) v ((h.same v).1 (inl c))
      from v (inr o) = elim (Contains-push_cases ops m (translation v) o) [
        | inl old ↦ Contains-append_left vectors (m.translation ∷ []) v ((h.same v).1 (inr old))
        | inr new ↦ subst (Contains (vectors ++ m.translation ∷ [])) (ap (λ (k : Motion). k.translation) new) (Contains-push vectors m.translation)
      ]

  -- another motion is passed over
  pub collects_same : ¬ (m.matrix ≡ unit_matrix) → CollectsTranslations centrings (ops ++ m ∷ []) vectors
  collects_same n = record { same = λ v. (to v, from v) }
    where
      to : (v : Vector) → Contains vectors v → Contains centrings v ⊎ Contains (ops ++ m ∷ []) (translation v)
      to v is = elim ((h.same v).0 is) [ inl c ↦ inl c | inr o ↦ inr (Contains-append_left ops (m ∷ []) (translation v) o) ]

      from : (v : Vector) → Contains centrings v ⊎ Contains (ops ++ m ∷ []) (translation v) → Contains vectors v
      from v (inl c) = (h.same v).1 (inl c)
      from v (inr o) = elim (Contains-push_cases ops m (translation v) o) [
        | inl old ↦ (h.same v).1 (inr old)
        | inr new ↦ absurd (n (ap (λ (k : Motion). k.matrix) new))
      ]

-- they make the lattice that all that is listed makes
pub collects_generators : (g : Listing) (vectors : List Vector) → CollectsTranslations g.centrings g.ops vectors
    → (v : Vector) → Generates (centrings_alone vectors) v ↔ Generates g v
collects_generators g vectors h v = (to, from)
  where
    to : Generates (centrings_alone vectors) v → Generates g v
    to (inl edge) = inl edge
    to (inr (inl is)) = inr ((h.same v).0 is)
    to (inr (inr none)) = absurd (nothing_contained (translation v) none)

    from : Generates g v → Generates (centrings_alone vectors) v
    from (inl edge) = inl edge
    from (inr is) = inr (inl ((h.same v).1 is))

-- a turn of the loop that collects them
module _ (centrings : List Vector) (ops : List Motion3) (i : ℕ) (m : Motion3) (vectors : List (List Part)) (within : i < length ops) (at : get_or ops i m ≡ m)
    (h : CollectsTranslations centrings (map motion_of (take i ops)) (map parts vectors)) where
  longer : map motion_of (take i ops) ++ motion_of m ∷ [] ≡ map motion_of (take (i + 1) ops)
  longer = (λ j. map motion_of (take i ops) ++ motion_of (sym at j) ∷ []) ∙ sym (map_more motion_of ops i m within)

  pub collects_turn : (motion_of m).matrix ≡ unit_matrix → (new : List (List Part)) → new ≡ vectors ++ m.t ∷ []
      → CollectsTranslations centrings (map motion_of (take (i + 1) ops)) (map parts new)
  collects_turn e new pushed =
      subst (λ ms. CollectsTranslations centrings ms (map parts new)) longer
      (subst (CollectsTranslations centrings (map motion_of (take i ops) ++ motion_of m ∷ [])) (sym (ap (map parts) pushed ∙ map-append parts vectors (m.t ∷ [])))
      (collects_more centrings (map motion_of (take i ops)) (map parts vectors) (motion_of m) h e))

  pub collects_pass : ¬ ((motion_of m).matrix ≡ unit_matrix) → CollectsTranslations centrings (map motion_of (take (i + 1) ops)) (map parts vectors)
  collects_pass n =
      subst (λ ms. CollectsTranslations centrings ms (map parts vectors)) longer
      (collects_same centrings (map motion_of (take i ops)) (map parts vectors) (motion_of m) h n)
