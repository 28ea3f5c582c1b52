-- One more place numbered.
use Rattle.std.proofs.Common.{◌≡◌, ◌↔◌, ◌⊎◌, ℕ, ◌+◌, ◌<◌, ◌≤◌, List, [], ◌∷◌, ◌++◌, length, arith, inl, inr, sym, ap, subst, ◌∙◌}
use Rattle.std.proofs.lemmas.Bool.{cases_lt}
use Rattle.std.proofs.lemmas.List.{get_or_append_left, get_or_push, length-append}
use Rattle.integers.proofs.Order.{last_or_before}
use Rattle.symmetry.specs.Orbits.{number_at}
use Rattle.orbits.specs.Numbers.{AreClasses, AreNumbered}

pub none_numbered : (R : ℕ → ℕ → Type 0) (numbers : List ℕ) → numbers ≡ [] → AreNumbered R 0 numbers 0
none_numbered R numbers e = record {
  count = ap length e;
  equal = λ i j h k. absurd (omega (arith, h));
  from_one = λ i h. absurd (omega (arith, h));
  most = λ i h. absurd (omega (arith, h));
  few = omega arith;
  taken = λ m h k. absurd (omega (arith, h, k));
  in_order = λ i m h k l. absurd (omega (arith, h));
}

module _ (R : ℕ → ℕ → Type 0) (n : ℕ) (numbers : List ℕ) (classes : ℕ) (so_far : AreNumbered R n numbers classes) (number : ℕ) where
  abbrev more : List ℕ
  more = numbers ++ number ∷ []

  before : (i : ℕ) → i < n → number_at more i ≡ number_at numbers i
  before i h = get_or_append_left numbers (number ∷ []) 0 i (omega (arith, h, so_far.count))

  last : number_at more n ≡ number
  last = get_or_push numbers number 0 n so_far.count

  longer : length more ≡ n + 1
  longer = length-append numbers (number ∷ []) ∙ ap (λ k. k + 1) so_far.count

  module _ (all : AreClasses R (n + 1)) where
    -- the number of a place before, of one class with the new one
    module _ (place : ℕ) (within : place < n) (is : number_at numbers place ≡ number) (joined : R place n) where
      again_equal : (i j : ℕ) → (i < n) ⊎ (i ≡ n) → (j < n) ⊎ (j ≡ n) → (number_at more i ≡ number_at more j) ↔ R i j
      again_equal i j (inl h) (inl k) = (
        λ e. (so_far.equal i j h k).0 (sym (before i h) ∙ e ∙ before j k),
        λ c. before i h ∙ (so_far.equal i j h k).1 c ∙ sym (before j k),
      )
      again_equal i j (inl h) (inr q) = (
        λ e.
            let one = (so_far.equal i place h within).0 (sym (before i h) ∙ e ∙ ap (number_at more) q ∙ last ∙ sym is) in
            subst (R i) (sym q) (all.transitive i place n (omega (arith, h)) (omega (arith, within)) (omega arith) one joined),
        λ c.
            let back = all.symmetric place n (omega (arith, within)) (omega arith) joined in
            let one = all.transitive i n place (omega (arith, h)) (omega arith) (omega (arith, within)) (subst (R i) q c) back in
            before i h ∙ (so_far.equal i place h within).1 one ∙ is ∙ sym last ∙ sym (ap (number_at more) q),
      )
      again_equal i j (inr p) (inl k) = (
        λ e.
            let one = (so_far.equal place j within k).0 (is ∙ sym last ∙ sym (ap (number_at more) p) ∙ e ∙ before j k) in
            let back = all.symmetric place n (omega (arith, within)) (omega arith) joined in
            subst (λ x. R x j) (sym p) (all.transitive n place j (omega arith) (omega (arith, within)) (omega (arith, k)) back one),
        λ c.
            let one = all.transitive place n j (omega (arith, within)) (omega arith) (omega (arith, k)) joined (subst (λ x. R x j) p c) in
            ap (number_at more) p ∙ last ∙ sym is ∙ (so_far.equal place j within k).1 one ∙ sym (before j k),
      )
      again_equal i j (inr p) (inr q) = (
        λ e. subst (λ x. R x j) (sym p) (subst (R n) (sym q) (all.reflexive n (omega arith))),
        λ c. ap (number_at more) (p ∙ sym q),
      )

      pub number_again : AreNumbered R (n + 1) more classes
      number_again = record {
        count = longer;
        equal = λ i j h k. again_equal i j (last_or_before i n h) (last_or_before j n k);
        from_one = λ i h. elim (last_or_before i n h) [
          | inl k ↦ subst (λ x. 1 ≤ x) (sym (before i k)) (so_far.from_one i k)
          | inr e ↦ subst (λ x. 1 ≤ x) (sym (ap (number_at more) e ∙ last ∙ sym is)) (so_far.from_one place within)
        ];
        most = λ i h. elim (last_or_before i n h) [
          | inl k ↦ subst (λ x. x ≤ classes) (sym (before i k)) (so_far.most i k)
          | inr e ↦ subst (λ x. x ≤ classes) (sym (ap (number_at more) e ∙ last ∙ sym is)) (so_far.most place within)
        ];
        few = omega (arith, so_far.few);
        taken = λ m h k. let (j, l, e) = so_far.taken m h k in (j, omega (arith, l), before j l ∙ e);
        in_order = λ i m h k l. elim (last_or_before i n h) [
          | inl b ↦ let (j, c, e) = so_far.in_order i m b k (subst (λ x. m < x) (before i b) l) in (j, c, before j (omega (arith, b, c)) ∙ e)
          | inr q ↦
              let (j, c, e) = so_far.in_order place m within k (subst (λ x. m < x) (ap (number_at more) q ∙ last ∙ sym is) l) in
              (j, omega (arith, c, within, q), before j (omega (arith, c, within)) ∙ e)
        ];
      }

    -- the next number, of no class before
    module _ (is : number ≡ classes + 1) (alone : (i : ℕ) → i < n → ¬ R i n) where
      new_equal : (i j : ℕ) → (i < n) ⊎ (i ≡ n) → (j < n) ⊎ (j ≡ n) → (number_at more i ≡ number_at more j) ↔ R i j
      new_equal i j (inl h) (inl k) = (
        λ e. (so_far.equal i j h k).0 (sym (before i h) ∙ e ∙ before j k),
        λ c. before i h ∙ (so_far.equal i j h k).1 c ∙ sym (before j k),
      )
      new_equal i j (inl h) (inr q) = (
        λ e. absurd (omega (arith, so_far.most i h, sym (before i h) ∙ e ∙ ap (number_at more) q ∙ last ∙ is)),
        λ c. absurd (alone i h (subst (R i) q c)),
      )
      new_equal i j (inr p) (inl k) = (
        λ e. absurd (omega (arith, so_far.most j k, sym (before j k) ∙ sym e ∙ ap (number_at more) p ∙ last ∙ is)),
        λ c. absurd (alone j k (all.symmetric n j (omega arith) (omega (arith, k)) (subst (λ x. R x j) p c))),
      )
      new_equal i j (inr p) (inr q) = (
        λ e. subst (λ x. R x j) (sym p) (subst (R n) (sym q) (all.reflexive n (omega arith))),
        λ c. ap (number_at more) (p ∙ sym q),
      )

      new_taken : (m : ℕ) → 1 ≤ m → m ≤ classes + 1 → (j : ℕ) × (j < n + 1) × (number_at more j ≡ m)
      new_taken m h k = elim (cases_lt m (classes + 1)) [
        | inl b ↦ let (j, l, e) = so_far.taken m h (omega (arith, b)) in (j, omega (arith, l), before j l ∙ e)
        | inr b ↦ (n, omega arith, last ∙ is ∙ omega (arith, b, k))
      ]

      pub number_new : AreNumbered R (n + 1) more (classes + 1)
      number_new = record {
        count = longer;
        equal = λ i j h k. new_equal i j (last_or_before i n h) (last_or_before j n k);
        from_one = λ i h. elim (last_or_before i n h) [
          | inl k ↦ subst (λ x. 1 ≤ x) (sym (before i k)) (so_far.from_one i k)
          | inr e ↦ subst (λ x. 1 ≤ x) (sym (ap (number_at more) e ∙ last ∙ is)) (omega arith)
        ];
        most = λ i h. elim (last_or_before i n h) [
          | inl k ↦ subst (λ x. x ≤ classes + 1) (sym (before i k)) (omega (arith, so_far.most i k))
          | inr e ↦ subst (λ x. x ≤ classes + 1) (sym (ap (number_at more) e ∙ last ∙ is)) (omega arith)
        ];
        few = omega (arith, so_far.few);
        taken = new_taken;
        in_order = λ i m h k l. elim (last_or_before i n h) [
          | inl b ↦ let (j, c, e) = so_far.in_order i m b k (subst (λ x. m < x) (before i b) l) in (j, c, before j (omega (arith, b, c)) ∙ e)
          | inr q ↦
              let below : m < classes + 1 = subst (λ x. m < x) (ap (number_at more) q ∙ last ∙ is) l in
              let (j, c, e) = so_far.taken m k (omega (arith, below)) in
              (j, omega (arith, c, q), before j c ∙ e)
        ];
      }

-- ---- the same, as the code has them

fewer_classes : (R : ℕ → ℕ → Type 0) (n m : ℕ) → n ≤ m → AreClasses R m → AreClasses R n
fewer_classes R n m h all = record {
  reflexive = λ i k. all.reflexive i (omega (arith, h, k));
  symmetric = λ i j k l. all.symmetric i j (omega (arith, h, k)) (omega (arith, h, l));
  transitive = λ i j k l l' l''. all.transitive i j k (omega (arith, h, l)) (omega (arith, h, l')) (omega (arith, h, l''));
}

module _ (R : ℕ → ℕ → Type 0) (n m : ℕ) (within : n < m) (all : AreClasses R m) (numbers more : List ℕ) (classes classes' number : ℕ)
    (so_far : AreNumbered R n numbers classes) (pushed : more ≡ numbers ++ number ∷ []) where
  pub old_number : classes' ≡ classes → (place : ℕ) → place < length numbers → number_at numbers place ≡ number → R place n → AreNumbered R (n + 1) more classes'
  old_number e place here is joined =
      subst (λ l. AreNumbered R (n + 1) l classes') (sym pushed) (subst (AreNumbered R (n + 1) (numbers ++ number ∷ [])) (sym e)
      (number_again R n numbers classes so_far number (fewer_classes R (n + 1) m (omega (arith, within)) all) place (omega (arith, here, so_far.count)) is joined))

  pub next_number : classes' ≡ classes + 1 → number ≡ classes + 1 → ((i : ℕ) → i < length numbers → ¬ R i n) → AreNumbered R (n + 1) more classes'
  next_number e is alone =
      subst (λ l. AreNumbered R (n + 1) l classes') (sym pushed) (subst (AreNumbered R (n + 1) (numbers ++ number ∷ [])) (sym e)
      (number_new R n numbers classes so_far number (fewer_classes R (n + 1) m (omega (arith, within)) all) is (λ i h. alone i (omega (arith, h, so_far.count)))))
