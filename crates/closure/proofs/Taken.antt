-- What holds of the first elements of a list that code has come to, under a view.
use Rattle.std.proofs.Common.{◌≡◌, ℕ, ◌+◌, ◌<◌, ◌≤◌, ◌++◌, ◌∙◌, arith, sym, ap, subst, List, length, get_or, map, take, drop}
use Rattle.std.specs.Prelude.{All, AllPairs, Contains}
use Rattle.std.proofs.lemmas.List.{map_more, take_all, map-append, take-append-drop, length-map, length-take-le, get_or_append_left, get_or-map}
use Rattle.std.proofs.lemmas.List.Elements.{All-push, Contains-get_or}
use Rattle.quotient.proofs.ListLaws.{Contains-map}

module _ {X Y : Type 0} (f : X → Y) (P : Y → Type 0) (xs : List X) (i : ℕ) where
  pub taken_more : (d : X) → i < length xs → All P (map f (take i xs)) → P (f (get_or xs i d)) → All P (map f (take (i + 1) xs))
  taken_more d within all here = subst (All P) (sym (map_more f xs i d within)) (All-push P (map f (take i xs)) (f (get_or xs i d)) all here)

  pub taken_all : length xs ≤ i → All P (map f (take i xs)) → All P (map f xs)
  taken_all full all = subst (λ (l : List X). All P (map f l)) (take_all i xs full) all

pub item_contained : {X Y : Type 0} (f : X → Y) (xs : List X) (i : ℕ) (d : X) → i < length xs → Contains (map f xs) (f (get_or xs i d))
item_contained f xs i d within = Contains-map f xs (get_or xs i d) (Contains-get_or xs i d within)

-- the elements that code has come to stand where they stand in the list
module _ {X Y : Type 0} (f : X → Y) (xs : List X) (i : ℕ) where
  parted : map f xs ≡ map f (take i xs) ++ map f (drop i xs)
  parted = ap (map f) (sym (take-append-drop i xs)) ∙ map-append f (take i xs) (drop i xs)

  pub taken_at : (k : ℕ) (e : Y) → i ≤ length xs → k < i → get_or (map f (take i xs)) k e ≡ get_or (map f xs) k e
  taken_at k e long less =
      let within : k < length (map f (take i xs)) = omega (arith, length-map (take i xs) f, length-take-le i xs) in
      sym (ap (λ l. get_or l k e) parted ∙ get_or_append_left (map f (take i xs)) (map f (drop i xs)) e k within)

  -- of a pair of places, the first of an element that code has come to, the other where it is now
  pub taken_before : (R : Y → Y → Type 0) (d : X) → AllPairs R (map f xs) → i < length xs → (y : Y) → Contains (map f (take i xs)) y → R y (f (get_or xs i d))
  taken_before R d pairs here y (k, within, is) =
      let less : k < i = omega (arith, length-map (take i xs) f, length-take-le i xs) in
      let first : get_or (map f xs) k y ≡ y = sym (taken_at k y (omega arith) less) ∙ is in
      let second : get_or (map f xs) i y ≡ f (get_or xs i d) = get_or-map f xs i d y here in
      subst (λ z. R z (f (get_or xs i d))) first (subst (R (get_or (map f xs) k y)) second (pairs k i y less (omega (arith, length-map xs f))))
