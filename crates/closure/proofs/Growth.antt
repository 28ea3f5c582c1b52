-- What the loops keep: a coset that is appended residue by residue, and cosets that are appended one by one.
use Rattle.std.proofs.Common.{◌≡◌, ℕ, true, false, ◌+◌, ◌<◌, ◌≤◌, arith, refl, sym, ap, subst, ◌∙◌, List, [], ◌∷◌, ◌++◌, length, get_or, map, take}
use Rattle.std.proofs.lemmas.List.{get_or-map, get_or_append_left, length-map, length-append, length-take-le, map_more, append_assoc, map-append}
use Rattle.fractions.specs.declared.part.Part.{Part}
use Rattle.symmetry.specs.Vectors.{Vector, plus}
use Rattle.symmetry.specs.Groups.{Listing}
use Rattle.motions.specs.Views.{parts}
use Rattle.closure.specs.Fineness.{IsTooFine}
use Rattle.closure.specs.Residues.{residue, has_residue}
use Rattle.closure.specs.Spans.{AreResiduesOf, coset, with_centring}
use Rattle.closure.specs.Laws.ResidueLaws.{residue-residue, has_residue-is, has_residue-false}
use Rattle.closure.proofs.Cosets.{AreCosets, cosets_none, cosets_more, cosets_all, cosets_too_fine}

-- one more residue of the coset: the one at i, which the code reads from the list as it has grown
pub coset_more : (old now new : List (List Part)) (step : Vector) (i : ℕ) (r sum : List Part)
    → map parts now ≡ map parts old ++ coset step (take i (map parts old)) → i < length old → r ≡ get_or now i r
    → parts sum ≡ residue (plus (parts r) step) → new ≡ now ++ sum ∷ []
    → map parts new ≡ map parts old ++ coset step (take (i + 1) (map parts old))
coset_more old now new step i r sum grown within is value pushed =
    ap (map parts) pushed ∙ map-append parts now (sum ∷ [])
    ∙ (λ j. grown j ++ (value ∙ ap (λ v. residue (plus v step)) read) j ∷ [])
    ∙ append_assoc (map parts old) (coset step (take i (map parts old))) (residue (plus (get_or (map parts old) i (parts r)) step) ∷ [])
    ∙ ap (λ vs. map parts old ++ vs) (sym (map_more (λ v. residue (plus v step)) (map parts old) i (parts r) (subst (λ n. i < n) (sym (length-map old parts)) within)))
  where
    longer : length now ≡ length old + length (coset step (take i (map parts old)))
    longer = sym (length-map now parts) ∙ ap length grown ∙ length-append (map parts old) (coset step (take i (map parts old))) ∙ ap (λ n. n + length (coset step (take i (map parts old)))) (length-map old parts)

    read : parts r ≡ get_or (map parts old) i (parts r)
    read =
        ap parts is ∙ sym (get_or-map parts now i r (parts r) (omega (arith, longer)))
        ∙ ap (λ vs. get_or vs i (parts r)) grown
        ∙ get_or_append_left (map parts old) (coset step (take i (map parts old))) (parts r) i (subst (λ n. i < n) (sym (length-map old parts)) within)

-- the length of a list with a coset of its first residues
pub length-with_coset : (rs now : List Vector) (step : Vector) (size : ℕ) → size ≤ length rs → now ≡ rs ++ coset step (take size rs)
    → length now ≡ length rs + size
length-with_coset rs now step size h e =
    ap length e ∙ length-append rs (coset step (take size rs))
    ∙ ap (λ n. length rs + n) (length-map (take size rs) (λ r. residue (plus r step)) ∙ length-take-le size rs h)

-- before the first turn
pub cosets_begin : (g : Listing) (v : Vector) (rs : List (List Part)) (size : ℕ) (step : List Part) → size ≡ length rs → parts step ≡ residue v
    → AreResiduesOf g (map parts rs) → AreCosets g v size (map parts rs) (parts step)
cosets_begin g v rs size step whole value h =
    subst (λ n. AreCosets g v n (map parts rs) (parts step)) (length-map rs parts ∙ sym whole)
    (cosets_none g v (map parts rs) (parts step) h (ap residue value ∙ residue-residue v))

module _ (g : Listing) (v : Vector) (size : ℕ) (now : List (List Part)) (step : List Part) (h : AreCosets g v size (map parts now) (parts step))
    (new_step : has_residue (map parts now) (parts step) ≡ false) where
  grown : AreCosets g v size (map parts now ++ coset (parts step) (take size (map parts now))) (residue (plus (parts step) v))
  grown = cosets_more g v size (map parts now) (parts step) h (has_residue-false (map parts now) (parts step) new_step)

  -- a turn
  pub cosets_turn : (new : List (List Part)) (next : List Part) → map parts new ≡ map parts now ++ coset (parts step) (take size (map parts now))
      → parts next ≡ residue (plus (parts step) v) → AreCosets g v size (map parts new) (parts next)
  cosets_turn new next e n = subst (λ rs. AreCosets g v size rs (parts next)) (sym e) (subst (AreCosets g v size _) (sym n) grown)

  -- a turn that would list too many residues
  pub cosets_overflow : 64 < length now + size → IsTooFine (with_centring g v)
  cosets_overflow many =
      let all = map parts now ++ coset (parts step) (take size (map parts now)) in
      let whole : length all ≡ length now + size =
      length-with_coset (map parts now) all (parts step) size h.within refl ∙ ap (λ n. n + size) (length-map now parts) in
      cosets_too_fine g v size all (residue (plus (parts step) v)) grown (subst (λ n. 64 < n) (sym whole) many)

-- after the last turn
pub cosets_end : (g : Listing) (v : Vector) (size : ℕ) (now : List (List Part)) (step : List Part) → AreCosets g v size (map parts now) (parts step)
    → has_residue (map parts now) (parts step) ≡ true → AreResiduesOf (with_centring g v) (map parts now)
cosets_end g v size now step h t = cosets_all g v size (map parts now) (parts step) h ((has_residue-is (map parts now) (parts step)).0 t)

-- the length of the code's list after a turn
pub length-turn : (now new : List (List Part)) (step : List Part) (size : ℕ) → size ≤ length now
    → map parts new ≡ map parts now ++ coset (parts step) (take size (map parts now)) → length new ≡ length now + size
length-turn now new step size h e =
    sym (length-map new parts)
    ∙ length-with_coset (map parts now) (map parts new) (parts step) size (subst (λ n. size ≤ n) (sym (length-map now parts)) h) e
    ∙ ap (λ n. n + size) (length-map now parts)
