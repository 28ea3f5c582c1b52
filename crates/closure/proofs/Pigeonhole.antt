-- A list of different elements of another list is no longer than it; where it is as long, it has all of them.
use Rattle.std.proofs.Common.{◌≡◌, ℕ, zero, suc, true, ◌<◌, ◌≤◌, ◌⊎◌, inl, inr, eqb, arith, refl, sym, ap, subst, ◌∙◌, List, [], ◌∷◌, length, get_or}
use Rattle.std.specs.Prelude.{All, AllPairs, Contains}
use Rattle.std.specs.List.{list_any}
use Rattle.std.proofs.lemmas.List.{get_or_default}
use Rattle.std.proofs.lemmas.List.Elements.{All-head, All-nil, All-tail, All-cons}
use Rattle.std.proofs.lemmas.List.Kept.{AllPairs-cons}
use Rattle.std.proofs.lemmas.Map.Steps.{length-le_from_distinct_below}
use Rattle.std.proofs.lemmas.Map.Views.{Contains-from_any}
use borrow.Author.Tests.{eqb-true}
use Rattle.quotient.proofs.ListLaws.{distinct_from_apart}
use Rattle.closure.proofs.Counting.{different}

module _ {X : Type 0} (x0 : X) (xs : List X) where
  places : (ms : List X) → All (Contains xs) ms → List ℕ
  places [] inside = []
  places (m ∷ ms) inside = (All-head (Contains xs) m ms inside).0 ∷ places ms (All-tail (Contains xs) m ms inside)

  length-places : (ms : List X) (inside : All (Contains xs) ms) → length (places ms inside) ≡ length ms
  unfolding places
  length-places [] inside = refl
  length-places (m ∷ ms) inside = ap suc (length-places ms (All-tail (Contains xs) m ms inside))

  places-below : (ms : List X) (inside : All (Contains xs) ms) (k d : ℕ) → k < length ms → get_or (places ms inside) k d < length xs
  unfolding places
  places-below [] inside k d l = absurd (omega arith)
  places-below (m ∷ ms) inside zero d l = (All-head (Contains xs) m ms inside).1
  places-below (m ∷ ms) inside (suc k) d l = places-below ms (All-tail (Contains xs) m ms inside) k d (omega arith)

  place-is : (ms : List X) (inside : All (Contains xs) ms) (k d : ℕ) → k < length ms
      → get_or xs (get_or (places ms inside) k d) x0 ≡ get_or ms k x0
  unfolding places
  place-is [] inside k d l = absurd (omega arith)
  place-is (m ∷ ms) inside zero d l =
      let c = All-head (Contains xs) m ms inside in
      get_or_default xs c.0 x0 m c.1 ∙ c.2
  place-is (m ∷ ms) inside (suc k) d l = place-is ms (All-tail (Contains xs) m ms inside) k d (omega arith)

  pub no_longer : (ms : List X) → All (Contains xs) ms → AllPairs (λ x y. ¬ (x ≡ y)) ms → length ms ≤ length xs
  no_longer ms inside apart =
      let ks = places ms inside in
      let long : length ks ≡ length ms = length-places ms inside in
      let differ : AllPairs (λ (j k : ℕ). ¬ (j ≡ k)) ks =
      λ i j d less within e.
      apart i j x0 less (omega arith)
      (sym (place-is ms inside i d (omega arith)) ∙ ap (λ (k : ℕ). get_or xs k x0) e ∙ place-is ms inside j d (omega arith)) in
      let all_below : (q : ℕ) → list_any (eqb q) ks ≡ true → q < length xs =
      λ q t.
      let c = Contains-from_any {eq = eqb} eqb-true q ks t in
      subst (λ (k : ℕ). k < length xs) c.2 (places-below ms inside c.0 q (omega (arith, c.1))) in
      let fits : length ks ≤ length xs = length-le_from_distinct_below ks (length xs) (distinct_from_apart eqb different ks differ) all_below in
      omega arith

  module _ (same : (x y : X) → (x ≡ y) ⊎ ¬ (x ≡ y)) where
    decide : (ms : List X) (x : X) → Contains ms x ⊎ All (λ m. ¬ (x ≡ m)) ms
    decide [] x = inr (All-nil (λ m. ¬ (x ≡ m)))
    decide (m ∷ ms) x = elim (same x m) [
      | inl e ↦ inl (0, omega arith, sym e)
      | inr n ↦ elim (decide ms x) [
        | inl (k, within, is) ↦ inl (suc k, omega arith, is)
        | inr all ↦ inr (All-cons (λ m. ¬ (x ≡ m)) m ms n all)
      ]
    ]

    -- a list of as many different elements has each
    pub has_each : (ms : List X) → All (Contains xs) ms → AllPairs (λ x y. ¬ (x ≡ y)) ms → length ms ≡ length xs → (x : X) → Contains xs x → Contains ms x
    has_each ms inside apart e x is = elim (decide ms x) [
      | inl found ↦ found
      | inr none ↦
          let more : suc (length ms) ≤ length xs =
          no_longer (x ∷ ms) (All-cons (Contains xs) x ms is inside) (AllPairs-cons (λ x y. ¬ (x ≡ y)) x ms none apart) in
          absurd (omega arith)
    ]
