-- A motion is listed where its home is among those of the list.
use Rattle.std.proofs.Common.{◌≡◌, ◌↔◌, Bool, IsTrue, refl, List, [], ◌∷◌, ◌++◌, map, All, Any, ap, subst, sym, ◌∙◌}
use Rattle.std.specs.List.{list_any}
use Rattle.std.proofs.lemmas.List.{map-append}
use Rattle.std.proofs.lemmas.List.Elements.{All-head, All-tail}
use Rattle.std.proofs.lemmas.List.Folds.{Any-from_list_any, list_any-from_Any}
use Rattle.quotient.specs.Kind.{IsSame, Kind}
use Rattle.quotient.specs.Lists.{AreHomes, IsListed}
use Rattle.quotient.proofs.Items.{Any-from_listed, Any-from_map, Any-map, listed_from_Any}

module _ {M S : Type 0} (f : M → S) (home : M → M) where
  pub AreHomes-none : (list homes : List M) → list ≡ [] → homes ≡ [] → AreHomes f home list homes
  AreHomes-none list homes none nothing = ap (map f) nothing ∙ sym (ap (map (λ m. f (home m))) none)

  pub AreHomes-same : (list homes now homes_now : List M) → now ≡ list → homes_now ≡ homes → AreHomes f home list homes → AreHomes f home now homes_now
  AreHomes-same list homes now homes_now is homes_are are = ap (map f) homes_are ∙ are ∙ sym (ap (map (λ m. f (home m))) is)

  -- each motion is its own home
  pub own_homes : (list : List M) → All (λ m. f m ≡ f (home m)) list → AreHomes f home list list
  own_homes [] all = refl
  own_homes (x ∷ xs) all = λ i. All-head (λ m. f m ≡ f (home m)) x xs all i ∷ own_homes xs (All-tail (λ m. f m ≡ f (home m)) x xs all) i

  -- one more motion and its home
  pub AreHomes-push : (list homes : List M) (x h : M) → AreHomes f home list homes → f h ≡ f (home x) → AreHomes f home (list ++ x ∷ []) (homes ++ h ∷ [])
  AreHomes-push list homes x h are is =
      map-append f homes (h ∷ []) ∙ (λ i. are i ++ is i ∷ []) ∙ sym (map-append (λ m. f (home m)) list (x ∷ []))

module _ (K : Kind) {M : Type 0} (f : M → K.Motion) (home : M → M) (law : (m n : M) → IsSame K (f m) (f n) ↔ (f (home m) ≡ f (home n)))
    (eq : M → M → Bool) (equal : (a b : M) → IsTrue (eq a b) ↔ (f a ≡ f b)) where
  pub listed_by_homes : (list homes : List M) → AreHomes f home list homes → (x h : M) → f h ≡ f (home x)
      → (b : Bool) → b ≡ list_any (λ y. eq y h) homes → IsTrue b ↔ IsListed K (map f list) (f x)
  listed_by_homes list homes are x h at b e = (to, from)
    where
      to : IsTrue b → IsListed K (map f list) (f x)
      to t =
          let (i, y, inside, here, same) = Any-from_list_any (λ y. eq y h) homes (sym e ∙ t) in
          let among : Any (λ s. s ≡ f h) (map f homes) = Any-map f homes (λ s. s ≡ f h) (i, y, inside, here, (equal y h).0 same) in
          let (k, z, within, is, p) = Any-from_map (λ m. f (home m)) list (λ s. s ≡ f h) x (subst (Any (λ s. s ≡ f h)) are among) in
          listed_from_Any K f list x (k, z, within, is, (law x z).1 (sym (p ∙ at)))

      from : IsListed K (map f list) (f x) → IsTrue b
      from listed =
          let (k, z, within, is, same) = Any-from_listed K f list x listed in
          let among : Any (λ s. s ≡ f h) (map (λ m. f (home m)) list) =
          Any-map (λ m. f (home m)) list (λ s. s ≡ f h) (k, z, within, is, sym ((law x z).0 same) ∙ sym at) in
          let (i, y, inside, here, p) = Any-from_map f homes (λ s. s ≡ f h) x (subst (Any (λ s. s ≡ f h)) (sym are) among) in
          e ∙ list_any-from_Any (λ y. eq y h) homes (i, y, inside, here, (equal y h).1 p)
