-- A list that passes the tests is in order.
use Rattle.std.proofs.Common.{◌≡◌, ℕ, ℤ, zero, suc, ◌<◌, true, ◌&&◌, List, [], ◌∷◌, length, get_or, ap, subst, arith, inl, inr, Some}
use lib.Signed.{lt_z, lt_z_yes}
use Rattle.std.specs.Bool.{passes}
use Rattle.std.specs.List.{list_all}
use Rattle.std.specs.Ordering.{int_eq}
use Rattle.std.proofs.lemmas.Bool.{and_parts, or_cases}
use Rattle.std.proofs.lemmas.Bool.Decides.{Decides-int_eq}
use Rattle.std.proofs.lemmas.List.Sums.{AllPass-from_list_all}
use Rattle.std.proofs.lemmas.List.Elements.{All-weaker}
use Rattle.quotient.specs.Kind.{Kind}
use Rattle.quotient.specs.Order.{Form, FormTests, IsLexBelow, IsInOrder, lex_below, falls, in_order}

lex_below_is : (xs ys : List ℤ) → lex_below xs ys ≡ true → IsLexBelow xs ys
lex_below_is [] ys e = cc
lex_below_is (x ∷ xs) [] e = cc
lex_below_is (x ∷ xs) (y ∷ ys) e =
    let rest = lex_below_is xs ys in
    elim (or_cases (lt_z x y) (int_eq x y && lex_below xs ys) e) [
      | inl h ↦ inl (lt_z_yes (passes (lt_z x y) h))
      | inr h ↦
          let (same, below) = and_parts (int_eq x y) (lex_below xs ys) h in
          inr ((Decides-int_eq x y).0 same, rest below)
    ]

-- what the tests say
pub record FormLaws (K : Kind) (F : Form K) (T : FormTests K) : Type 0 where
  pub entries_is : (m : K.Motion) → T.entries m ≡ F.entries m
  pub one_is : (m : K.Motion) → T.is_one m ≡ true → m ≡ K.one
  pub home_is : (m : K.Motion) → T.is_home m ≡ true → F.IsHome m

module _ (K : Kind) (F : Form K) (T : FormTests K) (S : FormLaws K F T) where
  falls_is : (list : List K.Motion) → falls K T list ≡ true
      → (i j : ℕ) (d : K.Motion) → i < j → j < length list → IsLexBelow (F.entries (get_or list j d)) (F.entries (get_or list i d))
  falls_is [] e i j d h l = absurd (omega arith)
  falls_is (m ∷ ms) e i zero d h l = absurd (omega arith)
  falls_is (m ∷ ms) e zero (suc j) d h l =
      let first = (and_parts (list_all (λ n. lex_below (T.entries n) (T.entries m)) ms) (falls K T ms) e).0 in
      let n = get_or ms j d in
      subst (λ x. IsLexBelow x (F.entries m)) (S.entries_is n)
      (subst (λ x. IsLexBelow (T.entries n) x) (S.entries_is m)
      (lex_below_is (T.entries n) (T.entries m) (AllPass-from_list_all (λ n. lex_below (T.entries n) (T.entries m)) ms first j d (omega arith))))
  falls_is (m ∷ ms) e (suc i) (suc j) d h l =
      falls_is ms (and_parts (list_all (λ n. lex_below (T.entries n) (T.entries m)) ms) (falls K T ms) e).1 i j d (omega arith) (omega arith)

  after_first : (m : K.Motion) (ms : List K.Motion) → falls K T ms ≡ true
      → (i j : ℕ) (d : K.Motion) → 0 < i → i < j → j < suc (length ms) → IsLexBelow (F.entries (get_or (m ∷ ms) j d)) (F.entries (get_or (m ∷ ms) i d))
  after_first m ms e zero j d z h l = absurd (omega arith)
  after_first m ms e (suc i) zero d z h l = absurd (omega arith)
  after_first m ms e (suc i) (suc j) d z h l = falls_is ms e i j d (omega arith) (omega arith)

  pub in_order_is : (list : List K.Motion) → in_order K T list ≡ true → IsInOrder K F list
  in_order_is [] e = cc
  in_order_is (m ∷ ms) e =
      let (one, rest) = and_parts (T.is_one m) (falls K T ms && list_all T.is_home (m ∷ ms)) e in
      let (falling, home) = and_parts (falls K T ms) (list_all T.is_home (m ∷ ms)) rest in
      record {
        first = ap Some (S.one_is m one);
        falling = after_first m ms falling;
        home = All-weaker (λ x. T.is_home x ≡ true) F.IsHome S.home_is (m ∷ ms) (AllPass-from_list_all T.is_home (m ∷ ms) home);
      }
