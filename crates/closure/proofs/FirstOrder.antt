-- The first operations of a list keep the order in which the list's first ones stand, and are all of it where no two are
-- the same.
use Rattle.std.proofs.Common.{◌≡◌, ℕ, ◌+◌, ◌<◌, ◌≤◌, ◌↔◌, inl, inr, arith, refl, sym, ap, subst, ◌∙◌, List, [], ◌∷◌, ◌++◌, get_or, length}
use Rattle.std.specs.Prelude.{AllPairs, Any, Contains}
use Rattle.std.proofs.lemmas.Bool.{cases_lt}
use Rattle.std.proofs.lemmas.List.{append-nil, append_assoc, get_or_append_left, get_or_default, get_or_push, length-append}
use Rattle.std.proofs.lemmas.List.Elements.{Contains-get_or}
use Rattle.quotient.specs.Kind.{IsEquivalence}
use Rattle.quotient.specs.Lists.{AreFirst}
use Rattle.quotient.specs.Lists.AreFirst.{none, kept, left_out}
use Rattle.quotient.proofs.Firsts.{Contains-from_firsts, firsts_cover}
use Rattle.symmetry.specs.Motions.{Motion, identity}
use Rattle.symmetry.specs.Lists.{IsFirstPlace, ComesBefore, motion_at}
use Rattle.quotient.proofs.ListLaws.{AllPairs-front}

-- ---- a list of which no two are the same

module _ {A : Type 0} (Same : A → A → Type 0) where
  last_is_new : (list : List A) (x : A) → AllPairs (λ y z. ¬ Same z y) (list ++ x ∷ []) → ¬ Any (Same x) list
  last_is_new list x apart (k, y, within, is, same) =
      apart k (length list) y within (omega (arith, length-append list (x ∷ [])))
      (subst (λ u. Same u (get_or (list ++ x ∷ []) k y)) (sym (get_or_push list x y (length list) refl))
      (subst (Same x) (sym (get_or_append_left list (x ∷ []) y k within ∙ is)) same))

  firsts_with : (list more : List A) → AllPairs (λ y z. ¬ Same z y) (list ++ more) → AreFirst Same list list
      → AreFirst Same (list ++ more) (list ++ more)
  firsts_with list [] apart f = subst (λ l. AreFirst Same l l) (sym (append-nil list)) f
  firsts_with list (x ∷ more) apart f =
      let e : (list ++ x ∷ []) ++ more ≡ list ++ x ∷ more = append_assoc list (x ∷ []) more in
      let apart_here = subst (AllPairs (λ y z. ¬ Same z y)) (sym e) apart in
      let new = last_is_new list x (AllPairs-front (λ y z. ¬ Same z y) (list ++ x ∷ []) more apart_here) in
      subst (λ l. AreFirst Same l l) e (firsts_with (list ++ x ∷ []) more apart_here (kept list list x f new))

  pub firsts_of_distinct : (list : List A) → AllPairs (λ y z. ¬ Same z y) list → AreFirst Same list list
  firsts_of_distinct list apart = firsts_with [] list apart none

-- ---- the first place of a list with one more motion

module _ (P : Motion → Type 0) (list : List Motion) (x : Motion) where
  longer : length (list ++ x ∷ []) ≡ length list + 1
  longer = length-append list (x ∷ [])

  old : (p : ℕ) → p < length list → motion_at (list ++ x ∷ []) p ≡ motion_at list p
  old p h = get_or_append_left list (x ∷ []) identity p h

  new : motion_at (list ++ x ∷ []) (length list) ≡ x
  new = get_or_push list x identity (length list) refl

  first-push : (p : ℕ) → IsFirstPlace list P p → IsFirstPlace (list ++ x ∷ []) P p
  first-push p f = record {
    within = let l = f.within in omega (arith, longer);
    has = subst P (sym (old p f.within)) f.has;
    none_before = λ q h s. f.none_before q h (subst P (old q (let l = f.within in omega arith)) s);
  }

  first-back : (p : ℕ) → p < length list → IsFirstPlace (list ++ x ∷ []) P p → IsFirstPlace list P p
  first-back p l f = record {
    within = l;
    has = subst P (old p l) f.has;
    none_before = λ q h s. f.none_before q h (subst P (sym (old q (omega arith))) s);
  }

  first-last : (p : ℕ) → length list ≤ p → IsFirstPlace (list ++ x ∷ []) P p → P x × ((q : ℕ) → q < length list → ¬ P (motion_at list q))
  first-last p l f =
      let is : p ≡ length list = let w = f.within in omega (arith, longer) in (
        subst P (ap (motion_at (list ++ x ∷ [])) is ∙ new) f.has,
        λ q h s. f.none_before q (omega arith) (subst P (sym (old q h)) s),
      )

  first-new : P x → ((q : ℕ) → q < length list → ¬ P (motion_at list q)) → IsFirstPlace (list ++ x ∷ []) P (length list)
  first-new s n = record {
    within = omega (arith, longer);
    has = subst P (sym new) s;
    none_before = λ q h t. n q h (subst P (old q h) t);
  }

-- a property of no place is one of no motion that stands in the list
none_contained : (P : Motion → Type 0) (list : List Motion) → ((q : ℕ) → q < length list → ¬ P (motion_at list q)) → (y : Motion) → Contains list y → ¬ P y
none_contained P list n y (k, within, is) s = n k within (subst P (sym (get_or_default list k identity y within ∙ is)) s)

module _ (Same : Motion → Motion → Type 0) (E : IsEquivalence Same) where
  -- what is the same as none of the list is the same as none of the first, and the other way round
  none_of_firsts : (list firsts : List Motion) → AreFirst Same list firsts → (m : Motion)
      → ((q : ℕ) → q < length list → ¬ Same m (motion_at list q)) → (q : ℕ) → q < length firsts → ¬ Same m (motion_at firsts q)
  none_of_firsts list firsts f m n q h s =
      none_contained (Same m) list n (motion_at firsts q) (Contains-from_firsts list firsts f (motion_at firsts q) (Contains-get_or firsts q identity h)) s

  none_of_list : (list firsts : List Motion) → AreFirst Same list firsts → (m : Motion)
      → ((q : ℕ) → q < length firsts → ¬ Same m (motion_at firsts q)) → (q : ℕ) → q < length list → ¬ Same m (motion_at list q)
  none_of_list list firsts f m n q h s =
      let (k, z, within, is, t) = firsts_cover E list firsts f (motion_at list q) (Contains-get_or list q identity h) in
      none_contained (Same m) firsts n z (k, within, is) (E.transitive m (motion_at list q) z s t)

  -- a motion that is the same as an earlier one is not the first
  not_first : (list : List Motion) (x m : Motion) → Any (Same x) list → Same m x → ¬ ((q : ℕ) → q < length list → ¬ Same m (motion_at list q))
  not_first list x m (k, y, within, is, t) s n = none_contained (Same m) list n y (k, within, is) (E.transitive m x y s t)

  to_firsts : (list firsts : List Motion) → AreFirst Same list firsts → (m : Motion) (p : ℕ) → IsFirstPlace list (Same m) p
      → (q : ℕ) × IsFirstPlace firsts (Same m) q
  to_firsts _ _ none m p f = absurd (let w = f.within in omega arith)
  to_firsts _ _ (kept list firsts x a n) m p f = elim (cases_lt p (length list)) [
    | inl l ↦
        let r = to_firsts list firsts a m p (first-back (Same m) list x p l f) in
        (r.0, first-push (Same m) firsts x r.0 r.1)
    | inr l ↦
        let r = first-last (Same m) list x p l f in
        (length firsts, first-new (Same m) firsts x r.0 (none_of_firsts list firsts a m r.1))
  ]
  to_firsts _ _ (left_out list firsts x a n) m p f = elim (cases_lt p (length list)) [
    | inl l ↦ to_firsts list firsts a m p (first-back (Same m) list x p l f)
    | inr l ↦ let r = first-last (Same m) list x p l f in absurd (not_first list x m n r.0 r.1)
  ]

  from_firsts : (list firsts : List Motion) → AreFirst Same list firsts → (m : Motion) (q : ℕ) → IsFirstPlace firsts (Same m) q
      → (p : ℕ) × IsFirstPlace list (Same m) p
  from_firsts _ _ none m q f = absurd (let w = f.within in omega arith)
  from_firsts _ _ (kept list firsts x a n) m q f = elim (cases_lt q (length firsts)) [
    | inl l ↦
        let r = from_firsts list firsts a m q (first-back (Same m) firsts x q l f) in
        (r.0, first-push (Same m) list x r.0 r.1)
    | inr l ↦
        let r = first-last (Same m) firsts x q l f in
        (length list, first-new (Same m) list x r.0 (none_of_list list firsts a m r.1))
  ]
  from_firsts _ _ (left_out list firsts x a n) m q f =
      let r = from_firsts list firsts a m q f in
      (r.0, first-push (Same m) list x r.0 r.1)

  before_push : (list : List Motion) (x m n : Motion) → ComesBefore Same list m n → ComesBefore Same (list ++ x ∷ []) m n
  before_push list x m n b = record {
    p = b.p;
    q = b.q;
    first_of_m = first-push (Same m) list x b.p b.first_of_m;
    first_of_n = first-push (Same n) list x b.q b.first_of_n;
    before = b.before;
  }

  before_back : (list : List Motion) (x m n : Motion) (b : ComesBefore Same (list ++ x ∷ []) m n) → b.q < length list → ComesBefore Same list m n
  before_back list x m n b l = record {
    p = b.p;
    q = b.q;
    first_of_m = first-back (Same m) list x b.p (let h = b.before in omega arith) b.first_of_m;
    first_of_n = first-back (Same n) list x b.q l b.first_of_n;
    before = b.before;
  }

  -- the place before the last is a place of the list
  earlier : (list : List Motion) (x m n : Motion) (b : ComesBefore Same (list ++ x ∷ []) m n) → b.p < length list
  earlier list x m n b = let h = b.before in let w = b.first_of_n.within in omega (arith, longer (Same n) list x)

  before_in_firsts : (list firsts : List Motion) → AreFirst Same list firsts → (m n : Motion) → ComesBefore Same list m n → ComesBefore Same firsts m n
  before_in_firsts _ _ none m n b = b
  before_in_firsts _ _ (kept list firsts x a c) m n b = elim (cases_lt b.q (length list)) [
    | inl l ↦ before_push firsts x m n (before_in_firsts list firsts a m n (before_back list x m n b l))
    | inr l ↦
        let r = first-last (Same n) list x b.q l b.first_of_n in
        let s = to_firsts list firsts a m b.p (first-back (Same m) list x b.p (earlier list x m n b) b.first_of_m) in
        record {
          p = s.0;
          q = length firsts;
          first_of_m = first-push (Same m) firsts x s.0 s.1;
          first_of_n = first-new (Same n) firsts x r.0 (none_of_firsts list firsts a n r.1);
          before = s.1.within;
        }
  ]
  before_in_firsts _ _ (left_out list firsts x a c) m n b = elim (cases_lt b.q (length list)) [
    | inl l ↦ before_in_firsts list firsts a m n (before_back list x m n b l)
    | inr l ↦ let r = first-last (Same n) list x b.q l b.first_of_n in absurd (not_first list x n c r.0 r.1)
  ]

  before_in_list : (list firsts : List Motion) → AreFirst Same list firsts → (m n : Motion) → ComesBefore Same firsts m n → ComesBefore Same list m n
  before_in_list _ _ none m n b = b
  before_in_list _ _ (kept list firsts x a c) m n b = elim (cases_lt b.q (length firsts)) [
    | inl l ↦ before_push list x m n (before_in_list list firsts a m n (before_back firsts x m n b l))
    | inr l ↦
        let r = first-last (Same n) firsts x b.q l b.first_of_n in
        let s = from_firsts list firsts a m b.p (first-back (Same m) firsts x b.p (earlier firsts x m n b) b.first_of_m) in
        record {
          p = s.0;
          q = length list;
          first_of_m = first-push (Same m) list x s.0 s.1;
          first_of_n = first-new (Same n) list x r.0 (none_of_list list firsts a n r.1);
          before = s.1.within;
        }
  ]
  before_in_list _ _ (left_out list firsts x a c) m n b = before_push list x m n (before_in_list list firsts a m n b)

  pub same_order : (list firsts : List Motion) → AreFirst Same list firsts → (m n : Motion) → ComesBefore Same list m n ↔ ComesBefore Same firsts m n
  same_order list firsts a m n = (before_in_firsts list firsts a m n, before_in_list list firsts a m n)
