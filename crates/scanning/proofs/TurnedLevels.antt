-- The numbers that are whole periods from the shifts of the motions that turn the row.
use Rattle.std.proofs.Common.{◌≡◌, ℕ, ◌+◌, ◌<◌, ◌≤◌, ℤ, pos, negsuc, ◌+ℤ◌, ◌-ℤ◌, ◌*ℤ◌, ◌≤ℤ◌, ◌<ℤ◌, List, [], ◌∷◌, ◌++◌, length, map, take, get_or, ◌⊎◌, inl, inr, refl, sym, ◌∙◌, ap, subst, arith}
use Rattle.std.specs.Prelude.{AllPairs, Contains}
use Rattle.std.specs.List.{dedup}
use Rattle.std.specs.List.Sorted.{IsPermutation, IsSorted, IsStrictlySortedBy}
use Rattle.std.specs.Ordering.{int_cmp, int_eq}
use Rattle.std.specs.declared.cmp.Ordering.TheVariants.{Less}
use Rattle.std.proofs.lemmas.Bool.Decides.{Decides-int_eq}
use Rattle.std.proofs.lemmas.Cmp.{int_cmp_total, int_eq_equiv}
use Rattle.std.proofs.lemmas.Int.{ints, by_lt_z}
use Rattle.std.proofs.lemmas.List.{map-append, take_all, take_more}
use Rattle.std.proofs.lemmas.List.Elements.{All-from_recursion, All-nil, All-push, All-weaker, Contains-append_left, Contains-push, Contains-push_cases}
use Rattle.std.proofs.lemmas.List.Filters.{All-dedup}
use Rattle.std.proofs.lemmas.List.Kept.{AllPairs-cons, Contains-dedup, IsStrictlySortedBy-dedup}
use Rattle.std.proofs.lemmas.List.Sorted.{All-permutation, Contains-permutation}
use Rattle.integers.proofs.Order.{small_multiple}
use Rattle.integers.proofs.Solver.{Expr.{var, num, ◌⊕◌, ◌⊝◌, ◌⊗◌}, given, linear}
use Rattle.symmetry.specs.Vectors.{Vector, dot, opposite, row_times}
use Rattle.symmetry.specs.Motions.{Motion}
use Rattle.motions.specs.declared.motion.Motion3.{Motion3}
use Rattle.motions.specs.Views.{motion_of}
use Rattle.scanning.specs.Levels.{AreLevels, AreTurned, IsInTwoPeriods, IsTurned}

-- ---- numbers

-- both k and l periods from x, one from 0 to below d and the other from 0 to below 2 d: they are equal or one period apart
nothing_between : (d x t u k l : ℤ) → pos 0 ≤ℤ t → t <ℤ d → pos 0 ≤ℤ u → u <ℤ (pos 2 *ℤ d) → t ≡ x +ℤ k *ℤ d → u ≡ x +ℤ l *ℤ d
    → (u ≡ t) ⊎ (u ≡ t +ℤ d)
nothing_between d x t u k l t_from t_below u_from u_below t_is u_is =
    by_lt_z u d
    (λ below.
    let apart = linear (d ∷ x ∷ t ∷ u ∷ k ∷ l ∷ []) (var 0 ⊗ (var 5 ⊝ var 4)) (var 3 ⊝ var 2)
    (given (num (pos 1)) (var 2) (var 1 ⊕ var 4 ⊗ var 0) ∷ given (num (negsuc 0)) (var 3) (var 1 ⊕ var 5 ⊗ var 0) ∷ []) tt (t_is, (u_is, tt)) in
    let none : l -ℤ k ≡ pos 0 = small_multiple d (l -ℤ k) (omega (arith, ints)) (omega (arith, ints)) in
    inl (closed d (l -ℤ k) (u -ℤ t) u t none apart refl))
    (λ from.
    let apart = linear (d ∷ x ∷ t ∷ u ∷ k ∷ l ∷ []) (var 0 ⊗ (var 5 ⊝ var 4 ⊝ num (pos 1))) (var 3 ⊝ var 2 ⊝ var 0)
    (given (num (pos 1)) (var 2) (var 1 ⊕ var 4 ⊗ var 0) ∷ given (num (negsuc 0)) (var 3) (var 1 ⊕ var 5 ⊗ var 0) ∷ []) tt (t_is, (u_is, tt)) in
    let none : l -ℤ k -ℤ pos 1 ≡ pos 0 = small_multiple d (l -ℤ k -ℤ pos 1) (omega (arith, ints)) (omega (arith, ints)) in
    inr (omega (arith, ints, closed d (l -ℤ k -ℤ pos 1) (u -ℤ t -ℤ d) (u -ℤ d) t none apart (omega (arith, ints)))))
  where
    closed : (d k e u t : ℤ) → k ≡ pos 0 → d *ℤ k ≡ e → e ≡ u -ℤ t → u ≡ t
    closed d k e u t none apart is = let zero : d *ℤ k ≡ d *ℤ pos 0 = ap (λ z. d *ℤ z) none in omega (arith, ints)

-- ---- motion by motion

module _ (r : Vector) (d : ℤ) where
  -- it turns the row
  abbrev pub Turns : Motion → Type 0
  Turns m = row_times r m.matrix ≡ opposite r

  pub none_turned : (ts : List ℤ) → ts ≡ [] → AreTurned r d [] ts
  none_turned ts is = subst (AreTurned r d []) (sym is) (record {
    within = All-nil (IsInTwoPeriods d);
    each = All-nil (IsTurned r d []);
    whole = λ t h turned. let (k, below, at) = turned.listed in absurd (omega arith);
  })

  turned_later : (ms : List Motion) (m : Motion) (t : ℤ) → IsTurned r d ms t → IsTurned r d (ms ++ m ∷ []) t
  turned_later ms m t turned = record {
    op = turned.op;
    listed = Contains-append_left ms (m ∷ []) turned.op turned.listed;
    row = turned.row;
    periods = turned.periods;
    is = turned.is;
  }

  pub turned_passed : (ms : List Motion) (m : Motion) (ts : List ℤ) → ¬ Turns m → AreTurned r d ms ts → AreTurned r d (ms ++ m ∷ []) ts
  turned_passed ms m ts not are = record {
    within = are.within;
    each = All-weaker (IsTurned r d ms) (IsTurned r d (ms ++ m ∷ [])) (turned_later ms m) ts are.each;
    whole = λ t h turned.
        elim (Contains-push_cases ms m turned.op turned.listed) [
          | inl before ↦ are.whole t h (record { op = turned.op; listed = before; row = turned.row; periods = turned.periods; is = turned.is })
          | inr same ↦ absurd (not (ap (λ (n : Motion). row_times r n.matrix) same ∙ turned.row))
        ];
  }

  pub turned_taken : (ms : List Motion) (m : Motion) (ts : List ℤ) (t k : ℤ) → Turns m → pos 0 ≤ℤ t → t <ℤ d → t ≡ dot r m.translation +ℤ k *ℤ d
      → AreTurned r d ms ts → AreTurned r d (ms ++ m ∷ []) ((ts ++ t ∷ []) ++ (t +ℤ d) ∷ [])
  turned_taken ms m ts t k row from below is are = record {
    within = All-push (IsInTwoPeriods d) (ts ++ t ∷ []) (t +ℤ d) (All-push (IsInTwoPeriods d) ts t are.within (record { from = from; below = omega (arith, ints) }))
        (record { from = omega (arith, ints); below = omega (arith, ints) });
    each = All-push (IsTurned r d more) (ts ++ t ∷ []) (t +ℤ d)
        (All-push (IsTurned r d more) ts t (All-weaker (IsTurned r d ms) (IsTurned r d more) (turned_later ms m) ts are.each) (here t k is))
        (here (t +ℤ d) (k +ℤ pos 1) (ap (λ z. z +ℤ d) is ∙ once_more (dot r m.translation) k d));
    whole = λ u h turned.
        elim (Contains-push_cases ms m turned.op turned.listed) [
          | inl before ↦
              Contains-append_left (ts ++ t ∷ []) ((t +ℤ d) ∷ []) u
              (Contains-append_left ts (t ∷ []) u
              (are.whole u h (record { op = turned.op; listed = before; row = turned.row; periods = turned.periods; is = turned.is })))
          | inr same ↦
              one_of u
              (nothing_between d (dot r m.translation) t u k turned.periods from below h.from h.below is
              (turned.is ∙ ap (λ (n : Motion). dot r n.translation +ℤ turned.periods *ℤ d) (sym same)))
        ];
  }
    where
      more : List Motion
      more = ms ++ m ∷ []

      here : (u l : ℤ) → u ≡ dot r m.translation +ℤ l *ℤ d → IsTurned r d (ms ++ m ∷ []) u
      here u l e = record { op = m; listed = Contains-push ms m; row = row; periods = l; is = e }

      once_more : (x k d : ℤ) → x +ℤ k *ℤ d +ℤ d ≡ x +ℤ (k +ℤ pos 1) *ℤ d
      once_more x k d = linear (x ∷ k ∷ d ∷ []) (var 0 ⊕ var 1 ⊗ var 2 ⊕ var 2) (var 0 ⊕ (var 1 ⊕ num (pos 1)) ⊗ var 2) [] tt tt

      one_of : (u : ℤ) → (u ≡ t) ⊎ (u ≡ t +ℤ d) → Contains ((ts ++ t ∷ []) ++ (t +ℤ d) ∷ []) u
      one_of u (inl e) = subst (Contains ((ts ++ t ∷ []) ++ (t +ℤ d) ∷ [])) (sym e) (Contains-append_left (ts ++ t ∷ []) ((t +ℤ d) ∷ []) t (Contains-push ts t))
      one_of u (inr e) = subst (Contains ((ts ++ t ∷ []) ++ (t +ℤ d) ∷ [])) (sym e) (Contains-push (ts ++ t ∷ []) (t +ℤ d))

  -- ---- the same for the code's motions

  one_more : (ms : List Motion3) (i : ℕ) (e : Motion3) → i < length ms → map motion_of (take i ms) ++ motion_of (get_or ms i e) ∷ [] ≡ map motion_of (take (i + 1) ms)
  one_more ms i e h = sym (ap (map motion_of) (take_more ms i e h) ∙ map-append motion_of (take i ms) (get_or ms i e ∷ []))

  pub passed_more : (ms : List Motion3) (i : ℕ) (e : Motion3) (ts more : List ℤ) → more ≡ ts → i < length ms → ¬ Turns (motion_of (get_or ms i e))
      → AreTurned r d (map motion_of (take i ms)) ts → AreTurned r d (map motion_of (take (i + 1) ms)) more
  passed_more ms i e ts more is h not are =
      subst (AreTurned r d (map motion_of (take (i + 1) ms))) (sym is)
      (subst (λ ns. AreTurned r d ns ts) (one_more ms i e h) (turned_passed (map motion_of (take i ms)) (motion_of (get_or ms i e)) ts not are))

  pub taken_more : (ms : List Motion3) (i : ℕ) (e : Motion3) (ts more : List ℤ) (t k : ℤ) → more ≡ (ts ++ t ∷ []) ++ (t +ℤ d) ∷ [] → i < length ms
      → Turns (motion_of (get_or ms i e)) → pos 0 ≤ℤ t → t <ℤ d → t ≡ dot r (motion_of (get_or ms i e)).translation +ℤ k *ℤ d
      → AreTurned r d (map motion_of (take i ms)) ts → AreTurned r d (map motion_of (take (i + 1) ms)) more
  taken_more ms i e ts more t k is h row from below at are =
      subst (AreTurned r d (map motion_of (take (i + 1) ms))) (sym is)
      (subst (λ ns. AreTurned r d ns ((ts ++ t ∷ []) ++ (t +ℤ d) ∷ [])) (one_more ms i e h)
      (turned_taken (map motion_of (take i ms)) (motion_of (get_or ms i e)) ts t k row from below at are))

  pub turned_all : (ms : List Motion3) (i : ℕ) (ts : List ℤ) → length ms ≤ i → AreTurned r d (map motion_of (take i ms)) ts → AreTurned r d (map motion_of ms) ts
  turned_all ms i ts past are = subst (λ ns. AreTurned r d (map motion_of ns) ts) (take_all i ms past) are

  -- ---- sorted, and each once

  less_from_cmp : (x y : ℤ) → int_cmp x y ≡ Less → x <ℤ y
  less_from_cmp x y e = grind (arith, ints)

  rising : (ts : List ℤ) → IsStrictlySortedBy int_cmp ts → AllPairs (λ t u. t <ℤ u) ts
  unfolding IsStrictlySortedBy
  rising [] h = λ i j e below within. absurd (omega arith)
  rising (t ∷ ts) h =
      AllPairs-cons (λ t u. t <ℤ u) t ts
      (All-weaker (λ u. int_cmp t u ≡ Less) (λ u. t <ℤ u) (λ u e. less_from_cmp t u e) ts (All-from_recursion (λ u. int_cmp t u ≡ Less) ts h.0))
      (rising ts h.1)

  pub levels_from_turned : (ms : List Motion) (ts us vs : List ℤ) → AreTurned r d ms ts → IsPermutation ts us → IsSorted int_cmp us → vs ≡ dedup int_eq us
      → AreLevels r d ms vs
  levels_from_turned ms ts us vs are moved sorted is = subst (AreLevels r d ms) (sym is) (record {
    turned = record {
      within = All-dedup int_eq (IsInTwoPeriods d) us (All-permutation (IsInTwoPeriods d) ts us moved are.within);
      each = All-dedup int_eq (IsTurned r d ms) us (All-permutation (IsTurned r d ms) ts us moved are.each);
      whole = λ t h turned.
          Contains-dedup {E = int_eq} int_eq_equiv (λ x y e. (Decides-int_eq x y).0 e) us t (Contains-permutation ts us t moved (are.whole t h turned));
    };
    rising = rising (dedup int_eq us) (IsStrictlySortedBy-dedup {R = int_cmp} int_cmp_total {E = int_eq} (λ x y. refl) us sorted);
  })
