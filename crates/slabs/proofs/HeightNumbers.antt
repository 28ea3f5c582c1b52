-- What 128-bit code computes of two heights.
use Rattle.std.proofs.Common.{◌≡◌, ◌↔◌, ℕ, ◌+◌, ◌*◌, ◌^◌, ◌<◌, ℤ, pos, ◌+ℤ◌, ◌*ℤ◌, ◌≤ℤ◌, ◌<ℤ◌, Bool, true, false, IsTrue, FitsSigned, Option, Some, None, refl, sym, ◌∙◌, ap, subst, arith, lit<, lit≤}
use Rattle.std.specs.Prelude.{IsNone, IfSome, int_lt}
use Rattle.std.specs.Int.{w128}
use Rattle.std.specs.Option.{IsSome}
use Rattle.std.proofs.lemmas.Int.{ints}
use Rattle.fractions.specs.FractionOf.{fraction_of}
use Rattle.fractions.specs.LowestTerms.{lowest_terms}
use Rattle.fractions.specs.declared.ratio.Ratio.{Ratio}
use Rattle.integers.specs.Size.{IsWithin}
use Rattle.integers.proofs.Ring.{IsWithin-add, IsWithin-more, IsWithin-mul}
use Rattle.integers.proofs.Wide.{wide, wide_fits, wide_is}

-- the product of two numbers
module _ (m n : ℕ) (a b : ℤ) (below_a : m < 2 ^ 127) (below_b : n < 2 ^ 127) (h : IsWithin m a) (k : IsWithin n b) where
  pub product_is : (x y : ℤ) → x ≡ a → y ≡ b → wide x *ℤ wide y ≡ a *ℤ b
  product_is x y e f =
      (λ i. wide (e i) *ℤ wide (f i)) ∙ (λ i. wide_is m a below_a h i *ℤ wide_is n b below_b k i)

  pub wide_product : (x y : ℤ) → m * n < 2 ^ 127 → x ≡ a → y ≡ b → wide (wide x *ℤ wide y) ≡ a *ℤ b
  wide_product x y below e f = ap wide (product_is x y e f) ∙ wide_is (m * n) (a *ℤ b) below (IsWithin-mul h k)

-- a test of two numbers
pub less_tells : (x y a b : ℤ) → x ≡ a → y ≡ b → IsTrue (int_lt x y) ↔ (a <ℤ b)
less_tells x y a b e f = (λ t. to (int_lt x y) refl t, λ l. from (int_lt x y) refl l)
  where
    to : (t : Bool) → int_lt x y ≡ t → t ≡ true → a <ℤ b
    to true g t = omega (arith, ints)
    to false g t = absurd (cc t)

    from : (t : Bool) → int_lt x y ≡ t → a <ℤ b → t ≡ true
    from true g l = refl
    from false g l = absurd (omega (arith, ints))

-- the ratio of two numbers that are known
pub some_ratio : (made : Option Ratio) (den d : ℤ) → IsNone made ↔ (den ≡ pos 0) → den ≡ d → pos 1 ≤ℤ d → IsSome made
some_ratio None den d none e one = let zero = none.0 refl in absurd (omega (arith, ints))
some_ratio (Some r) den d none e one = refl

pub made_ratio : (made : Option Ratio) (r : Ratio) (num n den d : ℤ) → made ≡ Some r
    → IfSome made (λ r. fraction_of r ≡ lowest_terms num den) → num ≡ n → den ≡ d → fraction_of r ≡ lowest_terms n d
made_ratio made r num n den d is exact e f =
    let P : Option Ratio → Type 0 = λ o. IfSome o (λ r. fraction_of r ≡ lowest_terms num den) in
    subst P is exact ∙ (λ i. lowest_terms (e i) (f i))

-- the sum p/q + p'/q' and twice its denominator, of numbers within 10^9
abbrev pub most : ℕ
most = 1000000000

module _ (p q p' q' : ℤ) (h : IsWithin most p) (k : IsWithin most q) (h' : IsWithin most p') (k' : IsWithin most q') where
  two : IsWithin 2 (pos 2)
  two = record { most = lit≤ tt }

  within_sum : IsWithin (most * most + most * most) (p *ℤ q' +ℤ p' *ℤ q)
  within_sum = IsWithin-add (IsWithin-mul h k') (IsWithin-mul h' k)

  module _ (x y x' y' : ℤ) (e : x ≡ p) (f : y ≡ q') (e' : x' ≡ p') (f' : y' ≡ q) where
    sum_is : wide (wide x *ℤ wide y) +ℤ wide (wide x' *ℤ wide y') ≡ p *ℤ q' +ℤ p' *ℤ q
    sum_is = λ i.
        wide_product most most p q' (lit< tt) (lit< tt) h k' x y (lit< tt) e f i
        +ℤ wide_product most most p' q (lit< tt) (lit< tt) h' k x' y' (lit< tt) e' f' i

    pub sum_fits : FitsSigned w128 (wide (wide x *ℤ wide y) +ℤ wide (wide x' *ℤ wide y'))
    sum_fits =
        let P : ℤ → Type 0 = FitsSigned w128 in
        subst P (sym sum_is) (wide_fits (most * most + most * most) (p *ℤ q' +ℤ p' *ℤ q) (lit< tt) within_sum)

    pub wide_sum : wide (wide (wide x *ℤ wide y) +ℤ wide (wide x' *ℤ wide y')) ≡ p *ℤ q' +ℤ p' *ℤ q
    wide_sum = ap wide sum_is ∙ wide_is (most * most + most * most) (p *ℤ q' +ℤ p' *ℤ q) (lit< tt) within_sum

    pub sum_small : IsWithin (2 ^ 120) (wide (wide (wide x *ℤ wide y) +ℤ wide (wide x' *ℤ wide y')))
    sum_small = subst (IsWithin (2 ^ 120)) (sym wide_sum) (IsWithin-more within_sum (lit≤ tt))

  pub wide_double : (x y : ℤ) → x ≡ q → y ≡ q' → wide (wide (wide (pos 2) *ℤ wide x) *ℤ wide y) ≡ pos 2 *ℤ q *ℤ q'
  wide_double x y e f =
      wide_product (2 * most) most (pos 2 *ℤ q) q' (lit< tt) (lit< tt) (IsWithin-mul two k) k' (wide (pos 2) *ℤ wide x) y (lit< tt)
      (product_is 2 most (pos 2) q (lit< tt) (lit< tt) two k (pos 2) x refl e) f
