-- The items of a list that are the same as no earlier one: each item is the same as exactly one of them.
use Rattle.std.proofs.Common.{◌≡◌, ◌⊎◌, ℕ, ◌<◌, List, [], ◌∷◌, ◌++◌, length, get_or, map, Any, AllPairs, Contains, ap, arith, inl, inr, refl, subst, sym, ◌∙◌}
use Rattle.std.proofs.lemmas.List.{get_or_append_left, get_or_push, length-append, map-append, same_from_push}
use Rattle.std.proofs.lemmas.List.Elements.{Contains-append_left, Contains-get_or, Contains-push, Contains-push_cases}
use Rattle.std.proofs.lemmas.List.Quantifiers.{Any-push, all_pairs_push}
use Rattle.quotient.specs.Kind.{IsEquivalence}
use Rattle.quotient.specs.Lists.{AreFirst, KeepsOrder, StandsFirst}
use Rattle.quotient.specs.Lists.AreFirst.{none, kept, left_out}
use Rattle.quotient.proofs.Items.{Any-from_map, Any-map}

module _ {A : Type 0} (P : A → Type 0) where
  pub Any-from_Contains : (xs : List A) (x : A) → Contains xs x → P x → Any P xs
  Any-from_Contains xs x (k, within, is) p = (k, x, within, is, p)

  pub Any-append_left : (xs ys : List A) → Any P xs → Any P (xs ++ ys)
  Any-append_left xs ys (k, x, within, is, p) = Any-from_Contains (xs ++ ys) x (Contains-append_left xs ys x (k, within, is)) p

longer : {A : Type 0} (list : List A) (y : A) (p : ℕ) → p < length list → p < length (list ++ y ∷ [])
longer list y p h = simp length-append (omega arith)

last : {A : Type 0} (list : List A) (y : A) → length list < length (list ++ y ∷ [])
last list y = simp length-append (omega arith)

earlier : (q p n : ℕ) → q < p → p < n → q < n
earlier q p n h k = omega arith

-- the first items of a list without its last, and whether the last is one more of them
abbrev pub WithoutLast : {A : Type 0} → (A → A → Type 0) → List A → A → List A → Type 0
WithoutLast Same list x firsts = (before : List _) × AreFirst Same list before
    × ((¬ Any (Same x) list × (firsts ≡ before ++ x ∷ [])) ⊎ (Any (Same x) list × (firsts ≡ before)))

module _ {A : Type 0} {Same : A → A → Type 0} where
  -- each of them stands in the list
  pub Contains-from_firsts : (list firsts : List A) → AreFirst Same list firsts → (x : A) → Contains firsts x → Contains list x
  Contains-from_firsts _ _ none x h = h
  Contains-from_firsts _ _ (kept list firsts y f new) x h =
      elim (Contains-push_cases firsts y x h) [
        | inl old ↦ Contains-append_left list (y ∷ []) x (Contains-from_firsts list firsts f x old)
        | inr e ↦ subst (Contains (list ++ y ∷ [])) e (Contains-push list y)
      ]
  Contains-from_firsts _ _ (left_out list firsts y f old) x h = Contains-append_left list (y ∷ []) x (Contains-from_firsts list firsts f x h)

  -- no two of them are the same
  pub firsts_apart : (list firsts : List A) → AreFirst Same list firsts → AllPairs (λ x y. ¬ Same y x) firsts
  firsts_apart _ _ none = λ i j d below within. absurd (omega arith)
  firsts_apart _ _ (kept list firsts y f new) =
      all_pairs_push (λ x z. ¬ Same z x) firsts y (firsts_apart list firsts f)
      (λ k d within same. new (Any-from_Contains (Same y) list (get_or firsts k d) (Contains-from_firsts list firsts f (get_or firsts k d) (Contains-get_or firsts k d within)) same))
  firsts_apart _ _ (left_out list firsts y f old) = firsts_apart list firsts f

  -- each item of the list is the same as one of them
  pub firsts_cover : IsEquivalence Same → (list firsts : List A) → AreFirst Same list firsts → (x : A) → Contains list x → Any (Same x) firsts
  firsts_cover E _ _ none x h = absurd (omega (arith, h.1))
  firsts_cover E _ _ (kept list firsts y f new) x h =
      elim (Contains-push_cases list y x h) [
        | inl old ↦ Any-append_left (Same x) firsts (y ∷ []) (firsts_cover E list firsts f x old)
        | inr e ↦ Any-push (Same x) firsts y (subst (Same x) (sym e) (E.reflexive x))
      ]
  firsts_cover E _ _ (left_out list firsts y f old) x h =
      elim (Contains-push_cases list y x h) [
        | inl before ↦ firsts_cover E list firsts f x before
        | inr e ↦
            let (k, z, within, is, same) = old in
            let (j, u, here, at, next) = firsts_cover E list firsts f z (k, within, is) in
            (j, u, here, at, subst (λ v. Same v u) e (E.transitive y z u same next))
      ]

  -- what is the same as an item of the list is the same as one of them
  pub Any-firsts : IsEquivalence Same → (list firsts : List A) → AreFirst Same list firsts → (x : A) → Any (Same x) list → Any (Same x) firsts
  Any-firsts E list firsts f x (k, y, within, is, same) =
      let (j, z, here, at, next) = firsts_cover E list firsts f y (k, within, is) in
      (j, z, here, at, E.transitive x y z same next)

  -- one more item of the list, where it is told by those that are kept whether it is kept
  pub AreFirst-kept : IsEquivalence Same → (list firsts : List A) (x : A) → AreFirst Same list firsts → ¬ Any (Same x) firsts → AreFirst Same (list ++ x ∷ []) (firsts ++ x ∷ [])
  AreFirst-kept E list firsts x f new = kept list firsts x f (λ h. new (Any-firsts E list firsts f x h))

  pub AreFirst-left_out : (list firsts : List A) (x : A) → AreFirst Same list firsts → Any (Same x) firsts → AreFirst Same (list ++ x ∷ []) firsts
  AreFirst-left_out list firsts x f (k, y, within, is, same) =
      left_out list firsts x f (Any-from_Contains (Same x) list y (Contains-from_firsts list firsts f y (k, within, is)) same)

  StandsFirst-append : (list : List A) (x y : A) (p : ℕ) → StandsFirst Same list x p → StandsFirst Same (list ++ y ∷ []) x p
  StandsFirst-append list x y p s = record {
    within = longer list y p s.within;
    is = get_or_append_left list (y ∷ []) x p s.within ∙ s.is;
    before = λ q h same. s.before q h (subst (Same x) (get_or_append_left list (y ∷ []) x q (earlier q p (length list) h s.within)) same);
  }

  StandsFirst-push : (list : List A) (x : A) → ¬ Any (Same x) list → StandsFirst Same (list ++ x ∷ []) x (length list)
  StandsFirst-push list x new = record {
    within = last list x;
    is = get_or_push list x x (length list) refl;
    before = λ q h same. new (Any-from_Contains (Same x) list (get_or list q x) (Contains-get_or list q x h) (subst (Same x) (get_or_append_left list (x ∷ []) x q h) same));
  }

  KeepsOrder-append : (list : List A) (x y z : A) → KeepsOrder Same list x y → KeepsOrder Same (list ++ z ∷ []) x y
  KeepsOrder-append list x y z o = record {
    p = o.p;
    q = o.q;
    first_of_x = StandsFirst-append list x z o.p o.first_of_x;
    first_of_y = StandsFirst-append list y z o.q o.first_of_y;
    before = o.before;
  }

  -- each of them stands where the first stands that is the same
  firsts_stand : (list firsts : List A) → AreFirst Same list firsts → (x : A) → Contains firsts x → (p : ℕ) × StandsFirst Same list x p
  firsts_stand _ _ none x h = absurd (omega (arith, h.1))
  firsts_stand _ _ (kept list firsts y f new) x h =
      elim (Contains-push_cases firsts y x h) [
        | inl old ↦
            let (p, s) = firsts_stand list firsts f x old in
            (p, StandsFirst-append list x y p s)
        | inr e ↦ (length list, subst (λ v. StandsFirst Same (list ++ y ∷ []) v (length list)) e (StandsFirst-push list y new))
      ]
  firsts_stand _ _ (left_out list firsts y f old) x h =
      let (p, s) = firsts_stand list firsts f x h in
      (p, StandsFirst-append list x y p s)

  -- and they keep the list's order
  pub firsts_in_order : (list firsts : List A) → AreFirst Same list firsts → AllPairs (KeepsOrder Same list) firsts
  firsts_in_order _ _ none = λ i j d below within. absurd (omega arith)
  firsts_in_order _ _ (kept list firsts y f new) =
      all_pairs_push (KeepsOrder Same (list ++ y ∷ [])) firsts y
      (λ i j d below within. KeepsOrder-append list (get_or firsts i d) (get_or firsts j d) y (firsts_in_order list firsts f i j d below within))
      (λ k d within.
      let x = get_or firsts k d in
      let (p, s) = firsts_stand list firsts f x (Contains-get_or firsts k d within) in
      record {
        p = p;
        q = length list;
        first_of_x = StandsFirst-append list x y p s;
        first_of_y = StandsFirst-push list y new;
        before = s.within;
      })
  firsts_in_order _ _ (left_out list firsts y f old) =
      λ i j d below within. KeepsOrder-append list (get_or firsts i d) (get_or firsts j d) y (firsts_in_order list firsts f i j d below within)

  no_item : (list firsts : List A) → AreFirst Same list firsts → list ≡ [] → firsts ≡ []
  no_item _ _ none e = refl
  no_item _ _ (kept list firsts x f new) e = absurd (omega (arith, ap length e, last list x))
  no_item _ _ (left_out list firsts x f old) e = absurd (omega (arith, ap length e, last list x))

  pub without_last : (list firsts : List A) → AreFirst Same list firsts → (front : List A) (x : A) → list ≡ front ++ x ∷ [] → WithoutLast Same front x firsts
  without_last _ _ none front x e = absurd (omega (arith, ap length e, last front x))
  without_last _ _ (kept list firsts y f new) front x e =
      let (p, q) = same_from_push list front y x e in (
        firsts,
        subst (λ l. AreFirst Same l firsts) p f,
        inl (subst (λ l. ¬ Any (Same x) l) p (subst (λ z. ¬ Any (Same z) list) q new), ap (λ z. firsts ++ z ∷ []) q),
      )
  without_last _ _ (left_out list firsts y f old) front x e =
      let (p, q) = same_from_push list front y x e in (
        firsts,
        subst (λ l. AreFirst Same l firsts) p f,
        inr (subst (Any (Same x)) p (subst (λ z. Any (Same z) list) q old), refl),
      )

  -- a list has one list of them
  pub one_list : (list firsts others : List A) → AreFirst Same list firsts → AreFirst Same list others → firsts ≡ others
  one_list _ _ others none h = sym (no_item [] others h refl)
  one_list _ _ others (kept list firsts x f new) h =
      let (before, b, cases) = without_last (list ++ x ∷ []) others h list x refl in
      elim cases [
        | inl p ↦ ap (λ l. l ++ x ∷ []) (one_list list firsts before f b) ∙ sym p.1
        | inr p ↦ absurd (new p.0)
      ]
  one_list _ _ others (left_out list firsts x f old) h =
      let (before, b, cases) = without_last (list ++ x ∷ []) others h list x refl in
      elim cases [
        | inl p ↦ absurd (p.0 old)
        | inr p ↦ one_list list firsts before f b ∙ sym p.1
      ]

module _ {A B : Type 0} (f : A → B) {Same : B → B → Type 0} where
  -- the same of what the items stand for
  pub AreFirst-map : (list firsts : List A) → AreFirst (λ x y. Same (f x) (f y)) list firsts → AreFirst Same (map f list) (map f firsts)
  AreFirst-map _ _ none = none
  AreFirst-map _ _ (kept list firsts x a new) =
      subst (λ l. AreFirst Same l (map f (firsts ++ x ∷ []))) (sym (map-append f list (x ∷ [])))
      (subst (AreFirst Same (map f list ++ f x ∷ [])) (sym (map-append f firsts (x ∷ [])))
      (kept (map f list) (map f firsts) (f x) (AreFirst-map list firsts a) (λ h. new (Any-from_map f list (Same (f x)) x h))))
  AreFirst-map _ _ (left_out list firsts x a old) =
      subst (λ l. AreFirst Same l (map f firsts)) (sym (map-append f list (x ∷ [])))
      (left_out (map f list) (map f firsts) (f x) (AreFirst-map list firsts a) (Any-map f list (Same (f x)) old))
