-- A turn of the loop that looks for the first translation.
use Rattle.std.proofs.Common.{◌≡◌, ℕ, true, false, cond, ◌+◌, ◌<◌, sym, ap, ◌∙◌, List, [], ◌∷◌, length, get_or, map, take}
use Rattle.std.specs.List.{best_of}
use Rattle.std.proofs.lemmas.List.{map_more, map-append}
use Rattle.std.proofs.lemmas.List.Sums.{fold-append}
use Rattle.fractions.specs.declared.part.Part.{Part}
use Rattle.symmetry.specs.Vectors.{Vector, plus}
use Rattle.motions.specs.Views.{parts}
use Rattle.closure.specs.Residues.{residue, is_before}
use Rattle.closure.specs.Spans.{coset}
use Rattle.closure.specs.Lattices.{first_with}

module _ (rs : List (List Part)) (i : ℕ) (v : Vector) (within : i < length rs) where
  abbrev next : Vector
  next = residue (plus (parts (get_or rs i [])) v)

  -- one more residue
  first-more : first_with v (map parts (take (i + 1) rs))
      ≡ cond (is_before next (first_with v (map parts (take i rs)))) next (first_with v (map parts (take i rs)))
  first-more =
      ap (first_with v) (map_more parts rs i [] within)
      ∙ ap (λ ws. best_of is_before (residue v) ws) (map-append (λ r. residue (plus r v)) (map parts (take i rs)) (parts (get_or rs i []) ∷ []))
      ∙ fold-append (λ b x. cond (is_before x b) x b) (residue v) (coset v (map parts (take i rs))) (next ∷ [])

  module _ (first other : List Part) (was : parts first ≡ first_with v (map parts (take i rs))) (value : parts other ≡ next) where
    test : is_before next (first_with v (map parts (take i rs))) ≡ is_before (parts other) (parts first)
    test = λ j. is_before (sym value j) (sym was j)

    pub first_takes : is_before (parts other) (parts first) ≡ true → parts other ≡ first_with v (map parts (take (i + 1) rs))
    first_takes t = value ∙ sym (first-more ∙ ap (λ b. cond b next (first_with v (map parts (take i rs)))) (test ∙ t))

    pub first_keeps : is_before (parts other) (parts first) ≡ false → parts first ≡ first_with v (map parts (take (i + 1) rs))
    first_keeps t = was ∙ sym (first-more ∙ ap (λ b. cond b next (first_with v (map parts (take i rs)))) (test ∙ t))
