-- What a search of a list decides: whether all of its elements are so, or one of them.
use Rattle.std.proofs.Common.{refl, sym, subst, arith, ℕ, ◌<◌, List, [], ◌∷◌, get_or, length, map, IsTrue}
use Rattle.std.specs.Prelude.{◌↔◌, All, Any, Bool, true, false}
use Rattle.std.specs.Bool.{MatchBool}
use Rattle.std.specs.List.{AllWithin, HoldsAt}
use Rattle.std.proofs.lemmas.Bool.{true≢false}
use Rattle.std.proofs.lemmas.List.{get_or-map, get_or_default, length-map}
use Rattle.std.proofs.lemmas.List.Elements.{All-from_all_within, All-map}

module _ {X : Type 0} (P : X → Type 0) where
  pub all_are : (xs : List X) (r : Bool) → MatchBool r (AllWithin P xs 0 (length xs)) ((k : ℕ) × (k < length xs) × HoldsAt (λ x. ¬ P x) xs k) → IsTrue r ↔ All P xs
  all_are xs true all = (λ t. All-from_all_within P xs all, λ h. refl)
  all_are [] false (k, within, not) = absurd (omega arith)
  all_are (x ∷ xs) false (k, within, not) = (λ t. absurd (true≢false (sym t)), λ all. absurd (not x (all k x within)))

  pub some_is : (xs : List X) (r : Bool) → MatchBool r ((k : ℕ) × (k < length xs) × HoldsAt P xs k) (AllWithin (λ x. ¬ P x) xs 0 (length xs)) → IsTrue r ↔ Any P xs
  some_is [] true (k, within, holds) = absurd (omega arith)
  some_is (x ∷ xs) true (k, within, holds) =
      let y = get_or (x ∷ xs) k x in
      (λ t. (k, y, within, get_or_default (x ∷ xs) k y x within, holds x), λ h. refl)
  some_is xs false none = (λ t. absurd (true≢false (sym t)), λ (k, x, within, is, holds). absurd (none k x (omega arith) within (subst P (sym is) holds)))

-- the same of what the elements stand for
module _ {X Y : Type 0} (f : X → Y) (P : Y → Type 0) where
  pub some_of : (xs : List X) (r : Bool) → MatchBool r ((k : ℕ) × (k < length xs) × HoldsAt (λ x. P (f x)) xs k) (AllWithin (λ x. ¬ P (f x)) xs 0 (length xs)) → IsTrue r ↔ Any P (map f xs)
  some_of [] true (k, within, holds) = absurd (omega arith)
  some_of (x ∷ xs) true (k, within, holds) =
      let inside : k < length (map f (x ∷ xs)) = rw length-map within in
      let y = get_or (map f (x ∷ xs)) k (f x) in
      (λ t. (k, y, inside, get_or_default (map f (x ∷ xs)) k y (f x) inside, subst P (sym (get_or-map f (x ∷ xs) k x (f x) within)) (holds x)), λ h. refl)
  some_of xs false none =
      let not = All-map (λ y. ¬ P y) f xs (All-from_all_within (λ x. ¬ P (f x)) xs none) in
      (λ t. absurd (true≢false (sym t)), λ (k, y, within, is, holds). absurd (not k y within (subst P (sym is) holds)))
