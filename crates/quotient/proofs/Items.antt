-- The motions that code reads from a list, as entries of the list of what they stand for.
use Rattle.std.proofs.Common.{◌≡◌, ℕ, ◌+◌, ◌<◌, ◌≤◌, List, [], ◌∷◌, ◌++◌, length, get_or, map, take, sym, ap, ◌∙◌, subst, All, Any, Contains, arith, below_more}
use Rattle.std.proofs.lemmas.List.{get_or-map, get_or_default, length-map, take_more}
use Rattle.quotient.specs.Kind.{IsSame, Kind}
use Rattle.quotient.specs.Lists.{IsListed}

-- the items up to the one that is read at i
pub take_next : {M : Type 0} (list : List M) (i : ℕ) (x : M) → i < length list → x ≡ get_or list i x → take i list ++ x ∷ [] ≡ take (i + 1) list
take_next list i x within is = ap (λ y. take i list ++ y ∷ []) is ∙ sym (take_more list i x within)

module _ {M S : Type 0} (f : M → S) (list : List M) where
  -- the item that is read at i
  pub get_or-map_item : (i : ℕ) (x : M) (d : S) → i < length list → x ≡ get_or list i x → get_or (map f list) i d ≡ f x
  get_or-map_item i x d within is = get_or-map f list i x d within ∙ ap f (sym is)

  pub Contains-item : (i : ℕ) (x : M) → i < length list → x ≡ get_or list i x → Contains (map f list) (f x)
  Contains-item i x within is = (i, rw length-map within, get_or-map_item i x (f x) within is)

  pub Contains-item_at : (i : ℕ) (d : M) → i < length list → Contains (map f list) (f (get_or list i d))
  Contains-item_at i d within = Contains-item i (get_or list i d) within (get_or_default list i d (get_or list i d) within)

  pub All-item : (P : S → Type 0) (i : ℕ) (x : M) → All P (map f list) → i < length list → x ≡ get_or list i x → P (f x)
  All-item P i x all within is = subst P (get_or-map_item i x (f x) within is) (all i (f x) (rw length-map within))

  pub All-item_at : (P : S → Type 0) (i : ℕ) (d : M) → All P (map f list) → i < length list → P (f (get_or list i d))
  All-item_at P i d all within = All-item P i (get_or list i d) all within (get_or_default list i d (get_or list i d) within)

  -- nothing that the list stands for has a property that no item has; x is only there to read with
  pub no_item : (P : S → Type 0) (x : M) → ((k : ℕ) (d : M) → k < length list → ¬ P (f (get_or list k d))) → (n : S) → Contains (map f list) n → ¬ P n
  no_item P x none n (k, within, is) p =
      let inside = simp length-map at within in
      none k x inside (subst P (sym is ∙ get_or-map f list k x n inside) p)

  -- one more item has the property
  pub more_items : (P : S → Type 0) (d : S) (i : ℕ) (x : M) → i < length list → x ≡ get_or list i x
      → ((k : ℕ) → k < i → P (get_or (map f list) k d)) → P (f x) → (k : ℕ) → k < i + 1 → P (get_or (map f list) k d)
  more_items P d i x within is before here =
      below_more (λ k. P (get_or (map f list) k d)) i before (subst P (sym (get_or-map_item i x d within is)) here)

  -- each item has the property
  pub all_items : (P : S → Type 0) (d : S) (i : ℕ) → length list ≤ i
      → ((k : ℕ) → k < i → P (get_or (map f list) k d)) → (n : S) → Contains (map f list) n → P n
  all_items P d i whole each n (k, within, is) =
      let here = simp length-map at within in
      let below : k < i = omega (arith, here) in
      subst P (get_or_default (map f list) k d n within ∙ is) (each k below)

  -- some item stands for one that has the property; x is only there to read with
  pub Any-from_map : (P : S → Type 0) (x : M) → Any P (map f list) → Any (λ y. P (f y)) list
  Any-from_map P x (k, n, within, is, p) =
      let inside : k < length list = simp length-map at within in
      let y = get_or list k x in
      (k, y, inside, get_or_default list k y x inside, subst P (sym is ∙ get_or-map f list k x n inside) p)

  pub Any-map : (P : S → Type 0) → Any (λ y. P (f y)) list → Any P (map f list)
  Any-map P (k, y, within, is, p) =
      let (j, inside, at) = Contains-item k y within (sym is) in
      (j, f y, inside, at, p)

-- a listed motion is what some item stands for
module _ (K : Kind) {M : Type 0} (f : M → K.Motion) (list : List M) (x : M) where
  pub Any-from_listed : IsListed K (map f list) (f x) → Any (λ y. IsSame K (f x) (f y)) list
  Any-from_listed h =
      let (k, within, is) = h.listed in
      Any-from_map f list (IsSame K (f x)) x (k, h.of, within, is, h.same)

  pub listed_from_Any : Any (λ y. IsSame K (f x) (f y)) list → IsListed K (map f list) (f x)
  listed_from_Any (k, y, within, is, same) = record { of = f y; listed = Contains-item f list k y within (sym is); same = same }
