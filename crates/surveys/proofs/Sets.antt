-- Lists that have exactly the members of a set, each once.
use Rattle.std.proofs.Common.{◌≡◌, ◌⊎◌, inl, inr, List, [], ◌∷◌, ◌++◌, get_or, map, refl, sym, ◌∙◌, subst, arith}
use Rattle.std.specs.Prelude.{Contains}
use Rattle.std.proofs.lemmas.List.{get_or_default}
use Rattle.std.proofs.lemmas.List.Elements.{All-append, All-map, All-nil, All-push, All-weaker, Contains-append_left, Contains-append_right, Contains-push, All-contains}
use Rattle.std.proofs.lemmas.List.Quantifiers.{all_pairs_push}
use Rattle.quotient.proofs.ListLaws.{AllPairs-append, AllPairs-map, AllPairs-none, Contains-map}
use Rattle.surveys.specs.Additions.{IsWith}
use Rattle.surveys.specs.Surveys.{ListsSet}

module _ {A : Type 0} where
  pub lists_nothing : (P : A → Type 0) (xs : List A) → xs ≡ [] → ((x : A) → ¬ P x) → ListsSet P xs
  lists_nothing P xs e none = subst (ListsSet P) (sym e) (record {
    each = All-nil P;
    apart = AllPairs-none (λ (x y : A). ¬ (x ≡ y));
    whole = λ x p. absurd (none x p);
  })

  -- one set, told by two properties
  pub lists_same : (P Q : A → Type 0) (xs : List A) → ((x : A) → P x → Q x) → ((x : A) → Q x → P x) → ListsSet P xs → ListsSet Q xs
  lists_same P Q xs to from lists = record {
    each = All-weaker P Q to xs lists.each;
    apart = lists.apart;
    whole = λ x q. lists.whole x (from x q);
  }

  -- one more member
  pub lists_with : (P : A → Type 0) (xs : List A) (x : A) (ys : List A) → ListsSet P xs → IsWith xs x ys → ListsSet (λ y. P y ⊎ (y ≡ x)) ys
  lists_with P xs x ys lists (inl (old, is)) = subst (ListsSet (λ y. P y ⊎ (y ≡ x))) (sym is) (record {
    each = All-weaker P (λ y. P y ⊎ (y ≡ x)) (λ y p. inl p) xs lists.each;
    apart = lists.apart;
    whole = λ y in_it. elim in_it [
      | inl p ↦ lists.whole y p
      | inr e ↦ let (k, z, within, at, same) = old in subst (Contains xs) (sym same ∙ sym e) (k, within, at)
    ];
  })
  lists_with P xs x ys lists (inr (new, is)) = subst (ListsSet (λ y. P y ⊎ (y ≡ x))) (sym is) (record {
    each = All-push (λ y. P y ⊎ (y ≡ x)) xs x (All-weaker P (λ y. P y ⊎ (y ≡ x)) (λ y p. inl p) xs lists.each) (inr refl);
    apart = all_pairs_push (λ (y z : A). ¬ (y ≡ z)) xs x lists.apart
        (λ k d within same. new (k, get_or xs k d, within, get_or_default xs k (get_or xs k d) d within, sym same));
    whole = λ y in_it. elim in_it [
      | inl p ↦ Contains-append_left xs (x ∷ []) y (lists.whole y p)
      | inr e ↦ subst (Contains (xs ++ x ∷ [])) (sym e) (Contains-push xs x)
    ];
  })

  -- two sets with nothing in common
  pub lists_both : (P Q : A → Type 0) (xs ys : List A) → ((x : A) → P x → ¬ Q x) → ListsSet P xs → ListsSet Q ys → ListsSet (λ x. P x ⊎ Q x) (xs ++ ys)
  lists_both P Q xs ys none first last = record {
    each = All-append (λ x. P x ⊎ Q x) xs ys (All-weaker P (λ x. P x ⊎ Q x) (λ x p. inl p) xs first.each) (All-weaker Q (λ x. P x ⊎ Q x) (λ x q. inr q) ys last.each);
    apart = AllPairs-append (λ (x y : A). ¬ (x ≡ y)) xs ys first.apart last.apart
        (λ x y here there same. none x (All-contains P xs x first.each here) (subst Q (sym same) (All-contains Q ys y last.each there)));
    whole = λ x in_it. elim in_it [
      | inl p ↦ Contains-append_left xs ys x (first.whole x p)
      | inr q ↦ Contains-append_right xs ys x (last.whole x q)
    ];
  }

-- the images of a set, different ones of different members
module _ {A B : Type 0} (f : A → B) (P : A → Type 0) (Q : B → Type 0) where
  pub lists_images : (xs : List A) → ((x : A) → P x → Q (f x)) → ((x y : A) → P x → P y → f x ≡ f y → x ≡ y)
      → ((z : B) → Q z → (x : A) × P x × (f x ≡ z)) → ListsSet P xs → ListsSet Q (map f xs)
  lists_images xs to one onto lists = record {
    each = All-map Q f xs (All-weaker P (λ x. Q (f x)) to xs lists.each);
    apart = AllPairs-map f (λ (x y : B). ¬ (x ≡ y)) xs
        (λ i j d less within same. lists.apart i j d less within (one (get_or xs i d) (get_or xs j d) (lists.each i d (omega (arith, less, within))) (lists.each j d within) same));
    whole = λ z q. let (x, p, is) = onto z q in subst (Contains (map f xs)) is (Contains-map f xs x (lists.whole x p));
  }
