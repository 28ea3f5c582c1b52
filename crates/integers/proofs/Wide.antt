-- What 128-bit code computes at numbers of bounded size, and what goes from there to 64 bits.
use Rattle.std.proofs.Common.{◌≡◌, ℕ, ◌+◌, ◌^◌, ◌<◌, ℤ, ◌+ℤ◌, ◌<ℤ◌, pos, ◌↔◌, Bool, true, false, T, IsTrue, List, FitsSigned, w64, to_z, of_z, ap, refl, sym, subst, ◌∙◌, arith}
use Rattle.std.specs.Prelude.{int_lt, int_le}
use Rattle.std.specs.Int.{w128}
use Rattle.std.proofs.lemmas.Int.{ints, to_z-of_z, fits_signed_from_abs}
use native.Mathlib.Nat.{lt_of_le_of_lt}
use Rattle.integers.specs.Size.{IsWithin}
use Rattle.integers.proofs.Ring.{IsWithin-add}
use Rattle.integers.proofs.Solver.{Expr, value}
use Rattle.integers.proofs.Coded.{AllWithinBounds, again, again_is, bound, coded_by, is_bounded_by, read_is, read_within, step_fits}

-- a number that went to bits, read again
abbrev pub wide : ℤ → ℤ
wide z = to_z w128 (of_z w128 z)

pub wide_fits : (n : ℕ) (z : ℤ) → n < 2 ^ 127 → IsWithin n z → FitsSigned w128 z
wide_fits n z k h = fits_signed_from_abs w128 z (lt_of_le_of_lt h.most k)

pub wide_is : (n : ℕ) (z : ℤ) → n < 2 ^ 127 → IsWithin n z → wide z ≡ z
wide_is n z k h = to_z-of_z w128 z (wide_fits n z k h)

-- of another number that is z
pub cast_is : (n : ℕ) (y z : ℤ) → n < 2 ^ 127 → IsWithin n z → y ≡ z → wide y ≡ z
cast_is n y z k h e = ap wide e ∙ wide_is n z k h

-- ---- what code computes, as `Coded` says it

wide_keeps : (z : ℤ) (n : ℕ) → IsWithin n z → n < 2 ^ 127 → wide z ≡ z
wide_keeps z n h k = wide_is n z k h

abbrev pub coded : List ℤ → Expr → ℤ
coded = coded_by wide

abbrev pub is_bounded : List ℕ → Expr → Bool
is_bounded = is_bounded_by 127

pub code_fits : (s : List ℕ) (e : List ℤ) (a : Expr) → T (is_bounded s a) → AllWithinBounds s e → FitsSigned w128 (coded e a)
code_fits s e a t h = step_fits wide 127 wide_keeps s e a t h (FitsSigned w128) (λ z n h k. wide_fits n z k h)

pub code_is : (s : List ℕ) (e : List ℤ) (a : Expr) → T (is_bounded s a) → AllWithinBounds s e → wide (coded e a) ≡ value e a
code_is = read_is wide 127 wide_keeps

pub code_within : (s : List ℕ) (e : List ℤ) (a : Expr) → T (is_bounded s a) → AllWithinBounds s e → IsWithin (bound s a) (wide (coded e a))
code_within = read_within wide 127 wide_keeps

-- ---- sums and tests

-- the sum of two numbers
module _ (m n : ℕ) (x y : ℤ) (below : m < 2 ^ 127) (below' : n < 2 ^ 127) (h : IsWithin m x) (k : IsWithin n y) where
  pub wide-add : wide x +ℤ wide y ≡ x +ℤ y
  wide-add = λ i. wide_is m x below h i +ℤ wide_is n y below' k i

-- the sum of three numbers
module _ (n : ℕ) (x y z : ℤ) (below : n + n + n < 2 ^ 127) (h : IsWithin n x) (k : IsWithin n y) (l : IsWithin n z) where
  pub wide_sum : wide (wide x +ℤ wide y) +ℤ wide z ≡ x +ℤ y +ℤ z
  wide_sum =
      let two : n + n < 2 ^ 127 = omega arith in
      let one : n < 2 ^ 127 = omega arith in
      (λ i. (ap wide (wide-add n n x y one one h k) ∙ wide_is (n + n) (x +ℤ y) two (IsWithin-add h k)) i +ℤ wide_is n z one l i)

  pub within_sum : IsWithin (n + n + n) (x +ℤ y +ℤ z)
  within_sum = IsWithin-add (IsWithin-add h k) l

  pub wide_sum_fits : FitsSigned w128 (wide (wide x +ℤ wide y) +ℤ wide z)
  wide_sum_fits = let P : ℤ → Type 0 = FitsSigned w128 in subst P (sym wide_sum) (wide_fits (n + n + n) (x +ℤ y +ℤ z) below within_sum)

  pub wide_sum_is : wide (wide (wide x +ℤ wide y) +ℤ wide z) ≡ x +ℤ y +ℤ z
  wide_sum_is = ap wide wide_sum ∙ wide_is (n + n + n) (x +ℤ y +ℤ z) below within_sum

-- tests of a number that fits
pub zero_is : (z : ℤ) → FitsSigned w128 z → of_z w128 z ≡ 0 → z ≡ pos 0
zero_is z f e = sym (to_z-of_z w128 z f) ∙ ap (to_z w128) e

-- and of numbers of bounded size
pub wide_zero : (n : ℕ) (z : ℤ) → n < 2 ^ 127 → IsWithin n z → of_z w128 z ≡ 0 → z ≡ pos 0
wide_zero n z k h e = sym (wide_is n z k h) ∙ ap (to_z w128) e

pub not_above : (n : ℕ) (z : ℤ) → n < 2 ^ 127 → IsWithin n z → int_le (wide z) (pos 0) ≡ false → pos 0 <ℤ z
not_above n z k h e = let is = wide_is n z k h in omega (arith, ints)

pub above_tells : (n : ℕ) (z : ℤ) → n < 2 ^ 127 → IsWithin n z → IsTrue (int_lt (pos 0) (wide z)) ↔ (pos 0 <ℤ z)
above_tells n z k h = (λ t. to (int_lt (pos 0) (wide z)) refl t, λ l. from (int_lt (pos 0) (wide z)) refl l)
  where
    is : wide z ≡ z
    is = wide_is n z k h

    to : (b : Bool) → int_lt (pos 0) (wide z) ≡ b → b ≡ true → pos 0 <ℤ z
    to true e t = omega (arith, ints)
    to false e t = absurd (cc t)

    from : (b : Bool) → int_lt (pos 0) (wide z) ≡ b → pos 0 <ℤ z → b ≡ true
    from true e l = refl
    from false e l = absurd (omega (arith, ints))

-- ---- numbers that go to 64 bits

pub narrow_fits : (z : ℤ) → FitsSigned w128 z → FitsSigned w64 z → FitsSigned w64 (wide z)
narrow_fits z f h = let P : ℤ → Type 0 = FitsSigned w64 in subst P (sym (to_z-of_z w128 z f)) h

pub narrow_is : (z : ℤ) → FitsSigned w128 z → FitsSigned w64 z → again (wide z) ≡ z
narrow_is z f h = ap again (to_z-of_z w128 z f) ∙ to_z-of_z w64 z h

pub word_is : (n : ℕ) (y z : ℤ) → n < 2 ^ 63 → IsWithin n z → y ≡ z → again (wide y) ≡ z
word_is n y z k h e = ap again (cast_is n y z (omega arith) h e) ∙ again_is z n h k
