-- The rows W and their opposites of operations, each once.
use Rattle.std.proofs.Common.{◌≡◌, ℕ, ◌+◌, ◌<◌, ◌≤◌, ◌⊎◌, inl, inr, List, [], ◌∷◌, ◌++◌, length, get_or, map, take, sym, ap, subst, ◌∙◌, arith}
use Rattle.std.specs.Prelude.{Contains}
use Rattle.std.proofs.lemmas.List.{length-map, take_all}
use Rattle.std.proofs.lemmas.List.Elements.{Contains-append_left, Contains-push, Contains-push_cases}
use Rattle.symmetry.specs.Vectors.{Vector, opposite, row_times}
use Rattle.symmetry.specs.Motions.{Motion}
use Rattle.symmetry.specs.Groups.{Listing}
use Rattle.motions.specs.Views.{motion_of}
use Rattle.motions.specs.declared.motion.Motion3.{Motion3}
use Rattle.orbits.proofs.RowLists.{motions_more}
use Rattle.surveys.specs.Additions.{IsWith}
use Rattle.surveys.specs.Surveys.{AreEquivalent, IsUpToSign, ListsSet}
use Rattle.surveys.proofs.Sets.{lists_nothing, lists_same, lists_with}

-- the images of r under motions, up to sign
abbrev pub IsImage : Vector → List Motion → Vector → Type 0
IsImage r ms s = (m : Motion) × Contains ms m × IsUpToSign (row_times r m.matrix) s

pub no_images : (r : Vector) (rows : List Vector) → rows ≡ [] → ListsSet (IsImage r []) rows
no_images r rows e = lists_nothing (IsImage r []) rows e (λ s (m, (k, within, is), up). absurd (omega (arith, within)))

module _ (r : Vector) (ms : List Motion) (m : Motion) where
  abbrev row : Vector
  row = row_times r m.matrix

  image_more : (s : Vector) → (IsImage r ms s ⊎ (s ≡ row)) ⊎ (s ≡ opposite row) → IsImage r (ms ++ m ∷ []) s
  image_more s (inl (inl (n, listed, up))) = (n, Contains-append_left ms (m ∷ []) n listed, up)
  image_more s (inl (inr e)) = (m, Contains-push ms m, inl e)
  image_more s (inr e) = (m, Contains-push ms m, inr e)

  image_less : (s : Vector) → IsImage r (ms ++ m ∷ []) s → (IsImage r ms s ⊎ (s ≡ row)) ⊎ (s ≡ opposite row)
  image_less s (n, listed, up) = elim (Contains-push_cases ms m n listed) [
    | inl before ↦ inl (inl (n, before, up))
    | inr same ↦ here (subst (λ (n : Motion). IsUpToSign (row_times r n.matrix) s) (sym same) up)
  ]
    where
      here : IsUpToSign row s → (IsImage r ms s ⊎ (s ≡ row)) ⊎ (s ≡ opposite row)
      here (inl e) = inl (inr e)
      here (inr e) = inr e

  pub images_with : (rows mid last : List Vector) → ListsSet (IsImage r ms) rows → IsWith rows row mid → IsWith mid (opposite row) last
      → ListsSet (IsImage r (ms ++ m ∷ [])) last
  images_with rows mid last so_far first second =
      lists_same (λ s. (IsImage r ms s ⊎ (s ≡ row)) ⊎ (s ≡ opposite row)) (IsImage r (ms ++ m ∷ [])) last image_more image_less
      (lists_with (λ s. IsImage r ms s ⊎ (s ≡ row)) mid (opposite row) last (lists_with (IsImage r ms) rows row mid so_far first) second)

-- the operations of the code, up to one more
pub images_more : (r : Vector) (ops : List Motion3) (i : ℕ) (d : Motion3) → i < length ops → (v w : Vector)
    → v ≡ row_times r (motion_of (get_or ops i d)).matrix → w ≡ opposite v → (rows mid last : List Vector)
    → ListsSet (IsImage r (take i (map motion_of ops))) rows → IsWith rows v mid → IsWith mid w last
    → ListsSet (IsImage r (take (i + 1) (map motion_of ops))) last
images_more r ops i d within v w is turned rows mid last so_far first second =
    let m = motion_of (get_or ops i d) in
    subst (λ l. ListsSet (IsImage r l) last) (sym (motions_more ops i d within))
    (images_with r (take i (map motion_of ops)) m rows mid last so_far (subst (λ u. IsWith rows u mid) is first)
    (subst (λ u. IsWith mid u last) (turned ∙ ap opposite is) second))

-- and all operations
pub all_images : (g : Listing) (r : Vector) (ops : List Motion3) (i : ℕ) (rows : List Vector) → map motion_of ops ≡ g.ops → length ops ≤ i
    → ListsSet (IsImage r (take i (map motion_of ops))) rows → ListsSet (AreEquivalent g r) rows
all_images g r ops i rows e h =
    subst (λ l. ListsSet (IsImage r l) rows) (take_all i (map motion_of ops) (omega (arith, h, length-map ops motion_of)) ∙ e)
