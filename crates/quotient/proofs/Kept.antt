-- A walk along a list that keeps each motion that is the same as none that it has kept.
use Rattle.std.proofs.Common.{◌≡◌, ℕ, ◌+◌, ◌<◌, ◌≤◌, List, [], ◌∷◌, ◌++◌, length, get_or, map, take, All, subst, sym}
use Rattle.std.proofs.lemmas.List.{map-append, take_all}
use Rattle.std.proofs.lemmas.List.Elements.{All-nil, All-push}
use Rattle.quotient.specs.Kind.{IsEquivalence, IsSame, Kind}
use Rattle.quotient.specs.Lists.{AreFirst, IsListed}
use Rattle.quotient.specs.Lists.AreFirst.{none}
use Rattle.quotient.proofs.Firsts.{AreFirst-kept, AreFirst-left_out}
use Rattle.quotient.proofs.Items.{Any-from_listed, listed_from_Any, take_next}
use Rattle.quotient.proofs.Sameness.{IsEquivalence-of_values}

module _ (K : Kind) {M : Type 0} (f : M → K.Motion) (P : K.Motion → Type 0) (list : List M) where
  -- of the first i motions the first ones are kept, and they have the property
  pub record KeepsFirst (i : ℕ) (kept : List M) : Type 0 where
    pub first : AreFirst (λ m n. IsSame K (f m) (f n)) (take i list) kept
    pub each : All P (map f kept)

  pub KeepsFirst-none : (kept : List M) → kept ≡ [] → KeepsFirst 0 kept
  KeepsFirst-none kept e = subst (KeepsFirst 0) (sym e) (record { first = none; each = All-nil P })

  pub KeepsFirst-more : IsEquivalence (IsSame K) → (i : ℕ) (x : M) → i < length list → x ≡ get_or list i x → (kept more : List M)
      → KeepsFirst i kept → P (f x) → ¬ IsListed K (map f kept) (f x) → more ≡ kept ++ x ∷ [] → KeepsFirst (i + 1) more
  KeepsFirst-more E i x within is kept more k p new e = subst (KeepsFirst (i + 1)) (sym e) (record {
    first =
        subst (λ front. AreFirst (λ m n. IsSame K (f m) (f n)) front (kept ++ x ∷ [])) (take_next list i x within is)
        (AreFirst-kept (IsEquivalence-of_values f E) (take i list) kept x k.first (λ h. new (listed_from_Any K f kept x h)));
    each = subst (All P) (sym (map-append f kept (x ∷ []))) (All-push P (map f kept) (f x) k.each p);
  })

  pub KeepsFirst-same : (i : ℕ) (x : M) → i < length list → x ≡ get_or list i x → (kept more : List M)
      → KeepsFirst i kept → IsListed K (map f kept) (f x) → more ≡ kept → KeepsFirst (i + 1) more
  KeepsFirst-same i x within is kept more k h e = subst (KeepsFirst (i + 1)) (sym e) (record {
    first =
        subst (λ front. AreFirst (λ m n. IsSame K (f m) (f n)) front kept) (take_next list i x within is)
        (AreFirst-left_out (take i list) kept x k.first (Any-from_listed K f kept x h));
    each = k.each;
  })

  pub KeepsFirst-all : (i : ℕ) → length list ≤ i → (kept : List M) → KeepsFirst i kept → AreFirst (λ m n. IsSame K (f m) (f n)) list kept
  KeepsFirst-all i whole kept k = subst (λ front. AreFirst (λ m n. IsSame K (f m) (f n)) front kept) (take_all i list whole) k.first
