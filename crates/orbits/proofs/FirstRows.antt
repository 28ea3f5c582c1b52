-- The first rows of a list of motions are those of its first motions.
use Rattle.std.proofs.Common.{◌≡◌, ◌↔◌, ◌⊎◌, inl, inr, Any, List, [], ◌∷◌, ◌++◌, map, unsigned_abs, sym, ap, subst, ◌∙◌}
use Rattle.std.proofs.lemmas.List.{map-append}
use Rattle.std.proofs.lemmas.List.Elements.{Contains-push_cases}
use Rattle.quotient.specs.Lists.{AreFirst}
use Rattle.quotient.specs.Lists.AreFirst.{none, kept, left_out}
use Rattle.quotient.proofs.Firsts.{Any-append_left, Any-from_Contains, without_last}
use Rattle.quotient.proofs.Items.{Any-map}
use Rattle.std.proofs.lemmas.List.Quantifiers.{Any-push}
use Rattle.symmetry.specs.Vectors.{Matrix, Vector, row_times}
use Rattle.symmetry.specs.Motions.{Motion}
use Rattle.symmetry.specs.Groups.{IsMember, Listing, SameModulo}
use Rattle.symmetry.specs.Listings.{AreAlike}
use Rattle.symmetry.specs.Sizes.{IsVectorWithin}
use Rattle.symmetry.proofs.LatticeLaws.{listed_member}
use Rattle.orbits.specs.Orientations.{AreOrientations, IsWide}
use Rattle.orbits.specs.declared.rows.TheConstants.{WIDE}

module _ {A B : Type 0} (f : A → B) (Same : A → A → Type 0) (respects : (x y : A) → Same x y → f x ≡ f y) where
  abbrev Has : List A → B → Type 0
  Has xs v = Any (λ w. v ≡ w) (map f xs)

  has_left : (xs : List A) (y : A) (v : B) → Has xs v → Has (xs ++ y ∷ []) v
  has_left xs y v h = subst (Any (λ w. v ≡ w)) (sym (map-append f xs (y ∷ []))) (Any-append_left (λ w. v ≡ w) (map f xs) (f y ∷ []) h)

  has_last : (xs : List A) (y : A) (v : B) → v ≡ f y → Has (xs ++ y ∷ []) v
  has_last xs y v e = subst (Any (λ w. v ≡ w)) (sym (map-append f xs (y ∷ []))) (Any-push (λ w. v ≡ w) (map f xs) (f y) e)

  has_cases : (xs : List A) (y : A) (v : B) → Has (xs ++ y ∷ []) v → Has xs v ⊎ (v ≡ f y)
  has_cases xs y v h =
      let (k, w, within, is, e) = subst (Any (λ w. v ≡ w)) (map-append f xs (y ∷ [])) h in
      elim (Contains-push_cases (map f xs) (f y) w (k, within, is)) [
        | inl old ↦ inl (Any-from_Contains (λ w. v ≡ w) (map f xs) w old e)
        | inr p ↦ inr (e ∙ sym p)
      ]

  -- what the one has the other has
  pub has_in_list : (list firsts : List A) → AreFirst Same list firsts → (v : B) → Has firsts v → Has list v
  has_in_list _ _ none v h = h
  has_in_list _ _ (kept list firsts x a new) v h =
      elim (has_cases firsts x v h) [ inl old ↦ has_left list x v (has_in_list list firsts a v old) | inr e ↦ has_last list x v e ]
  has_in_list _ _ (left_out list firsts x a old) v h = has_left list x v (has_in_list list firsts a v h)

  same_before : (list : List A) (x : A) → Any (Same x) list → Has list (f x)
  same_before list x (k, y, within, is, same) = Any-map f list (λ w. f x ≡ w) (k, y, within, is, respects x y same)

  pub has_in_firsts : (list firsts : List A) → AreFirst Same list firsts → (v : B) → Has list v → Has firsts v
  has_in_firsts _ _ none v h = h
  has_in_firsts _ _ (kept list firsts x a new) v h =
      elim (has_cases list x v h) [ inl old ↦ has_left firsts x v (has_in_firsts list firsts a v old) | inr e ↦ has_last firsts x v e ]
  has_in_firsts _ _ (left_out list firsts x a old) v h =
      elim (has_cases list x v h) [
        | inl before ↦ has_in_firsts list firsts a v before
        | inr e ↦ has_in_firsts list firsts a v (subst (Has list) (sym e) (same_before list x old))
      ]

  abbrev AreFirstOf : List A → List B → Type 0
  AreFirstOf xs rows = AreFirst (λ v w. v ≡ w) (map f xs) rows

  pub of_list : (list firsts : List A) → AreFirst Same list firsts → (rows : List B) → AreFirstOf firsts rows → AreFirstOf list rows
  of_list _ _ none rows h = h
  of_list _ _ (kept list firsts x a new) rows h =
      let (before, b, cases) = without_last (map f (firsts ++ x ∷ [])) rows h (map f firsts) (f x) (map-append f firsts (x ∷ [])) in
      let back = of_list list firsts a before b in
      subst (λ l. AreFirst (λ v w. v ≡ w) l rows) (sym (map-append f list (x ∷ []))) (
      elim cases [
        | inl p ↦ subst (AreFirst (λ v w. v ≡ w) (map f list ++ f x ∷ [])) (sym p.1) (kept (map f list) before (f x) back (λ h. p.0 (has_in_firsts list firsts a (f x) h)))
        | inr p ↦ subst (AreFirst (λ v w. v ≡ w) (map f list ++ f x ∷ [])) (sym p.1) (left_out (map f list) before (f x) back (has_in_list list firsts a (f x) p.0))
      ]
      )
  of_list _ _ (left_out list firsts x a old) rows h =
      subst (λ l. AreFirst (λ v w. v ≡ w) l rows) (sym (map-append f list (x ∷ [])))
      (left_out (map f list) rows (f x) (of_list list firsts a rows h) (same_before list x old))

  pub of_firsts : (list firsts : List A) → AreFirst Same list firsts → (rows : List B) → AreFirstOf list rows → AreFirstOf firsts rows
  of_firsts _ _ none rows h = h
  of_firsts _ _ (kept list firsts x a new) rows h =
      let (before, b, cases) = without_last (map f (list ++ x ∷ [])) rows h (map f list) (f x) (map-append f list (x ∷ [])) in
      let on = of_firsts list firsts a before b in
      subst (λ l. AreFirst (λ v w. v ≡ w) l rows) (sym (map-append f firsts (x ∷ []))) (
      elim cases [
        | inl p ↦ subst (AreFirst (λ v w. v ≡ w) (map f firsts ++ f x ∷ [])) (sym p.1) (kept (map f firsts) before (f x) on (λ h. p.0 (has_in_list list firsts a (f x) h)))
        | inr p ↦ subst (AreFirst (λ v w. v ≡ w) (map f firsts ++ f x ∷ [])) (sym p.1) (left_out (map f firsts) before (f x) on (has_in_firsts list firsts a (f x) p.0))
      ]
      )
  of_firsts _ _ (left_out list firsts x a old) rows h =
      let (before, b, cases) = without_last (map f (list ++ x ∷ [])) rows h (map f list) (f x) (map-append f list (x ∷ [])) in
      elim cases [
        | inl p ↦ absurd (p.0 (same_before list x old))
        | inr p ↦ subst (AreFirstOf firsts) (sym p.1) (of_firsts list firsts a before b)
      ]

-- each listed operation of the one has the matrix of one of the other
module _ (g h : Listing) (alike : AreAlike g h) (r : Vector) where
  pub wide_to : IsWide g r → IsWide h r
  wide_to (m, listed, large) =
      let member : IsMember h m = (alike.members m).0 (listed_member g m listed) in
      (member.of, member.listed, subst (λ (w : Matrix). ¬ IsVectorWithin (unsigned_abs WIDE) (row_times r w)) member.same.matrix large)

  pub wide_from : IsWide h r → IsWide g r
  wide_from (m, listed, large) =
      let member : IsMember g m = (alike.members m).1 (listed_member h m listed) in
      (member.of, member.listed, subst (λ (w : Matrix). ¬ IsVectorWithin (unsigned_abs WIDE) (row_times r w)) member.same.matrix large)

pub orientations_of_firsts : (g h : Listing) (r : Vector) (rows : List Vector) → AreFirst (SameModulo g) g.ops h.ops → AreOrientations g r rows ↔ AreOrientations h r rows
orientations_of_firsts g h r rows a =
    let row = λ (m : Motion). row_times r m.matrix in
    let same = λ (m n : Motion) (s : SameModulo g m n). ap (row_times r) s.matrix in
    (of_firsts row (SameModulo g) same g.ops h.ops a rows, of_list row (SameModulo g) same g.ops h.ops a rows)
