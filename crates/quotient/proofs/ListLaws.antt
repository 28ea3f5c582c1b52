-- Lists of anything: pairs of places, what a map contains, and elements that differ.
use Rattle.std.proofs.Common.{◌≡◌, ℕ, zero, suc, Bool, false, ◌-◌, ◌<◌, ◌≤◌, inl, inr, arith, refl, sym, ap, subst, ◌∙◌, List, [], ◌∷◌, ◌++◌, length, get_or, map, take}
use Rattle.std.specs.Prelude.{All, AllPairs, Contains}
use Rattle.std.proofs.lemmas.Bool.{cases_lt}
use Rattle.std.proofs.lemmas.List.{get_or-map, length-map, length-append, get_or_append_left, get_or-append_right, take-append-drop}
use Rattle.std.specs.List.{IsDistinct}
use Rattle.std.proofs.lemmas.List.Elements.{Contains-get_or, recursion_from_All, All-from_recursion}
use Rattle.std.proofs.lemmas.List.Kept.{AllPairs-cons}

-- ---- pairs of places

module _ {X : Type 0} (R : X → X → Type 0) where
  -- a relation that holds in two lists, and from each element of the first to each of the second
  pub AllPairs-append : (xs ys : List X) → AllPairs R xs → AllPairs R ys
      → ((x y : X) → Contains xs x → Contains ys y → R x y) → AllPairs R (xs ++ ys)
  AllPairs-append xs ys p q across i j d less within =
      elim (cases_lt j (length xs)) [
        | inl h ↦ subst (λ x. R x (get_or (xs ++ ys) j d)) (sym (left i (omega arith))) (subst (R (get_or xs i d)) (sym (left j h)) (p i j d less h))
        | inr h ↦ subst (R (get_or (xs ++ ys) i d)) (sym (right j h)) (beyond h)
      ]
    where
      left : (k : ℕ) → k < length xs → get_or (xs ++ ys) k d ≡ get_or xs k d
      left k h = get_or_append_left xs ys d k h

      right : (k : ℕ) → length xs ≤ k → get_or (xs ++ ys) k d ≡ get_or ys (k - length xs) d
      right k h = get_or-append_right xs ys (length xs) k d refl h

      here : length xs ≤ j → j - length xs < length ys
      here h = omega (arith, length-append xs ys)

      beyond : length xs ≤ j → R (get_or (xs ++ ys) i d) (get_or ys (j - length xs) d)
      beyond h = elim (cases_lt i (length xs)) [
        | inl k ↦ subst (λ x. R x (get_or ys (j - length xs) d)) (sym (left i k))
            (across (get_or xs i d) (get_or ys (j - length xs) d) (Contains-get_or xs i d k) (Contains-get_or ys (j - length xs) d (here h)))
        | inr k ↦ subst (λ x. R x (get_or ys (j - length xs) d)) (sym (right i k)) (q (i - length xs) (j - length xs) d (omega arith) (here h))
      ]

  pub AllPairs-none : AllPairs R []
  AllPairs-none i j d less within = absurd (omega arith)

  pub AllPairs-front : (xs ys : List X) → AllPairs R (xs ++ ys) → AllPairs R xs
  AllPairs-front xs ys p i j d less within =
      let left = λ (k : ℕ) (h : k < length xs). get_or_append_left xs ys d k h in
      subst (λ x. R x (get_or xs j d)) (left i (omega arith)) (subst (R (get_or (xs ++ ys) i d)) (left j within) (p i j d less (omega (arith, length-append xs ys))))

  pub AllPairs-take : (n : ℕ) (xs : List X) → AllPairs R xs → AllPairs R (take n xs)
  AllPairs-take n xs p = AllPairs-front (take n xs) _ (subst (AllPairs R) (sym (take-append-drop n xs)) p)

-- the element at a place
pub item_at : {X : Type 0} (xs : List X) (k : ℕ) → k < length xs → (x : X) × (get_or xs k x ≡ x)
item_at [] k h = absurd (omega arith)
item_at (x ∷ xs) zero h = (x, refl)
item_at (x ∷ xs) (suc k) h = item_at xs k (omega arith)

module _ {X Y : Type 0} (f : X → Y) where
  pub AllPairs-map : (R : Y → Y → Type 0) (xs : List X) → AllPairs (λ x y. R (f x) (f y)) xs → AllPairs R (map f xs)
  AllPairs-map R xs p i j d less within =
      let h : j < length xs = subst (λ n. j < n) (length-map xs f) within in
      let k : i < length xs = omega arith in
      let e = (item_at xs i k).0 in
      subst (λ y. R y (get_or (map f xs) j d)) (sym (get_or-map f xs i e d k))
      (subst (R (f (get_or xs i e))) (sym (get_or-map f xs j e d h)) (p i j e less h))

  -- what a mapped list contains
  pub Contains-map : (xs : List X) (x : X) → Contains xs x → Contains (map f xs) (f x)
  Contains-map xs x (k, within, is) = (k, subst (λ n. k < n) (sym (length-map xs f)) within, get_or-map f xs k x (f x) within ∙ ap f is)

  pub Contains-from_map : (xs : List X) (y : Y) → Contains (map f xs) y → (x : X) × Contains xs x × (f x ≡ y)
  Contains-from_map xs y (k, within, is) =
      let h : k < length xs = subst (λ n. k < n) (length-map xs f) within in
      let x = item_at xs k h in
      (x.0, (k, h, x.1), sym (ap f x.1) ∙ sym (get_or-map f xs k x.0 y h) ∙ is)

  pub All-from_map : (P : Y → Type 0) (xs : List X) → All P (map f xs) → All (λ x. P (f x)) xs
  All-from_map P xs all k d h = subst P (get_or-map f xs k d (f d) h) (all k (f d) (subst (λ n. k < n) (sym (length-map xs f)) h))

-- ---- elements that differ, by a test of equality

module _ {X : Type 0} (E : X → X → Bool) where
  pub distinct_from_apart : ((x y : X) → ¬ (x ≡ y) → E x y ≡ false) → (xs : List X) → AllPairs (λ x y. ¬ (x ≡ y)) xs → IsDistinct E xs
  unfolding IsDistinct
  distinct_from_apart tells [] p = tt
  distinct_from_apart tells (x ∷ xs) p = (
    recursion_from_All (λ y. E x y ≡ false) xs (λ k d l. tells x (get_or xs k d) (p 0 (suc k) d (omega arith) (omega arith))),
    distinct_from_apart tells xs (λ i j d less within. p (suc i) (suc j) d (omega arith) (omega arith)),
  )

  pub apart_from_distinct : ((x y : X) → E x y ≡ false → ¬ (x ≡ y)) → (xs : List X) → IsDistinct E xs → AllPairs (λ x y. ¬ (x ≡ y)) xs
  unfolding IsDistinct
  apart_from_distinct tells [] d = λ i j e less within. absurd (omega arith)
  apart_from_distinct tells (x ∷ xs) d =
      AllPairs-cons (λ x y. ¬ (x ≡ y)) x xs
      (λ k e l. tells x (get_or xs k e) (All-from_recursion (λ y. E x y ≡ false) xs d.0 k e l))
      (apart_from_distinct tells xs d.1)

-- the empty list contains nothing
pub nothing_contained : {X : Type 0} (x : X) → ¬ Contains [] x
nothing_contained x (k, within, is) = absurd (omega arith)

-- a list of three
pub three_items : {X : Type 0} (xs : List X) (d : X) → length xs ≡ 3 → xs ≡ get_or xs 0 d ∷ get_or xs 1 d ∷ get_or xs 2 d ∷ []
three_items [] d e = absurd (omega arith)
three_items (x ∷ []) d e = absurd (omega arith)
three_items (x ∷ y ∷ []) d e = absurd (omega arith)
three_items (x ∷ y ∷ z ∷ []) d e = refl
three_items (x ∷ y ∷ z ∷ w ∷ xs) d e = absurd (omega arith)

-- what is so of the only one is so of all
pub All-single : {X : Type 0} (P : X → Type 0) (x : X) → P x → All P (x ∷ [])
All-single P x p zero d h = p
All-single P x p (suc k) d h = absurd (omega arith)
