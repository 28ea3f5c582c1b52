-- Positions of a list count from 1, and the code's indices from 0.
use Rattle.std.proofs.Common.{◌≡◌, ℕ, ◌+◌, ◌-◌, ◌<◌, List, [], ◌∷◌, length, get_or, map, Contains, ap, arith, inl, inr, refl, subst, sym, ◌∙◌}
use Rattle.std.specs.Prelude.{◌↔◌, IfSome, IsSome, MatchOption, None, Option, Some}
use Rattle.std.specs.List.{AllWithin, HoldsAt}
use Rattle.std.specs.Option.{option_map}
use Rattle.std.proofs.lemmas.List.{get_or-map, length-map}
use Rattle.std.proofs.lemmas.List.Elements.{All-contains, All-from_all_within, All-map, Contains-get_or}
use Rattle.quotient.specs.Kind.{IsSame, Kind}
use Rattle.quotient.specs.Lists.{IsFirstSame, IsListed}
use Rattle.quotient.specs.Groups.{IsFirstOpen, IsFirstWithout, motion_at}
use Rattle.quotient.proofs.Items.{get_or-map_item}

after_before : (i : ℕ) → i + 1 - 1 ≡ i
after_before i = omega arith

module _ (K : Kind) {M : Type 0} (f : M → K.Motion) where
  -- the first position without the property, where there is one
  abbrev FirstWithout : (K.Motion → Type 0) → List M → Option ℕ → Type 0
  FirstWithout Has list r = MatchOption r ((n : K.Motion) → Contains (map f list) n → Has n) (IsFirstWithout K Has (map f list))

  position_of : (Has : K.Motion → Type 0) (r : Option ℕ) (list : List M)
      → MatchOption r (AllWithin (λ x. Has (f x)) list 0 (length list)) (λ i. (i < length list) × HoldsAt (λ x. ¬ Has (f x)) list i × AllWithin (λ x. Has (f x)) list 0 i)
      → FirstWithout Has list (option_map (λ i. i + 1) r)
  position_of Has None list all = λ n. All-contains Has (map f list) n (All-map Has f list (All-from_all_within (λ x. Has (f x)) list all))
  position_of Has (Some i) [] (within, lacks, before) = absurd (omega arith)
  position_of Has (Some i) (x ∷ xs) (within, lacks, before) = record {
    position = (omega arith, rw length-map (omega arith));
    lacks = λ h. lacks x (subst Has (get_or-map f (x ∷ xs) i x K.one within) (subst (λ (k : ℕ). Has (get_or (map f (x ∷ xs)) k K.one)) (after_before i) h));
    before = λ k p h. subst Has (sym (get_or-map f (x ∷ xs) (k - 1) x K.one (omega arith))) (before (k - 1) x (omega arith) (omega arith));
  }

  -- it is one more than the first index
  pub first_without : (Has : K.Motion → Type 0) (list : List M) (r : Option ℕ)
      → MatchOption r (AllWithin (λ x. Has (f x)) list 0 (length list)) (λ i. (i < length list) × HoldsAt (λ x. ¬ Has (f x)) list i × AllWithin (λ x. Has (f x)) list 0 i)
      → (s : Option ℕ) → s ≡ option_map (λ i. i + 1) r → FirstWithout Has list s
  first_without Has list r h s e = subst (FirstWithout Has list) (sym e) (position_of Has r list h)

  -- what the index of the first item that is the same says of the list
  pub first_same : (m : K.Motion) (r : Option ℕ) (list : List M)
      → MatchOption r (AllWithin (λ x. ¬ IsSame K m (f x)) list 0 (length list)) (λ i. (i < length list) × HoldsAt (λ x. IsSame K m (f x)) list i × AllWithin (λ x. ¬ IsSame K m (f x)) list 0 i)
      → (IsSome r ↔ IsListed K (map f list) m) × IfSome r (IsFirstSame K (map f list) m)
  first_same m None list none =
      let apart = All-map (λ n. ¬ IsSame K m n) f list (All-from_all_within (λ x. ¬ IsSame K m (f x)) list none) in
      ((λ e. cc, λ h. absurd (All-contains (λ n. ¬ IsSame K m n) (map f list) h.of apart h.listed h.same)), tt)
  first_same m (Some i) [] (within, is, before) = absurd (omega arith)
  first_same m (Some i) (x ∷ xs) (within, is, before) =
      let l = map f (x ∷ xs) in
      let inside : i < length l = rw length-map within in
      let same = subst (IsSame K m) (sym (get_or-map f (x ∷ xs) i x K.one within)) (is x) in (
        (λ _. record { of = get_or l i K.one; listed = Contains-get_or l i K.one inside; same = same }, λ _. refl),
        record { within = inside; same = same; before = λ k h s. before k x (omega arith) h (subst (IsSame K m) (get_or-map f (x ∷ xs) k x K.one (omega arith)) s) },
      )

  -- the item that is read at i, and the one at j are the first pair whose product is not listed
  pub first_pair : (list : List M) (i j : ℕ) (x : M) → i < length list → x ≡ get_or list i x
      → ((k : ℕ) → k < i → (n : K.Motion) → Contains (map f list) n → IsListed K (map f list) (K.then (get_or (map f list) k K.one) n))
      → IsFirstWithout K (λ n. IsListed K (map f list) (K.then (f x) n)) (map f list) j → IsFirstOpen K (map f list) (i + 1) j
  first_pair list i j x within is above row =
      let l = map f list in
      let here : motion_at K l (i + 1) ≡ f x = ap (λ (k : ℕ). get_or l k K.one) (after_before i) ∙ get_or-map_item f list i x K.one within is in
      record {
        first = (omega arith, rw length-map (omega arith));
        second = row.position;
        lacks = λ h. row.lacks (subst (λ m. IsListed K l (K.then m (motion_at K l j))) here h);
        before = λ k m p q before. elim before [
          | inl h ↦ above (k - 1) (omega arith) (motion_at K l m) (Contains-get_or l (m - 1) K.one (omega arith))
          | inr h ↦ subst (λ n. IsListed K l (K.then n (motion_at K l m))) (sym here ∙ ap (motion_at K l) (sym h.0)) (row.before m q h.1)
        ];
      }
