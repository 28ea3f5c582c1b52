-- What `parse` gives of a short word.
use Rattle.std.proofs.Common.{◌≡◌, ◌≢◌, ℕ, ◌^◌, ◌<◌, ◌≤◌, ℤ, pos, neg_ℤ, List, length, None, Some, Result, Ok, Err, Bool, true, false, cond, slice_index, FitsSigned, w64, lit<, arith, ap, ◌∙◌}
use Rattle.std.specs.Prelude.{◌&&◌, ◌==◌, not, nat_le}
use Rattle.std.specs.Bool.{Decides}
use Rattle.std.specs.Result.{result_ok}
use Rattle.std.proofs.Math.Nat.{pow-le-pow_right}
use Rattle.std.specs.Str.Parse.{IsNumeral, digits_value, starts_with_minus, without_leading_sign, signed_digits_value, ParsesSigned}
use Rattle.std.proofs.lemmas.Int.{ints}
use Rattle.std.proofs.lemmas.Int.Digits.{digits_value-lt}
use Rattle.std.proofs.lemmas.Bool.Decides.{Decides-and, Decides-not, Decides-eqb}
use Rattle.requests.specs.Words.{index_of, is_numeral}
use Rattle.requests.proofs.Numerals.{numeral, Decides-le, some_if, none_if}

signed_fits : (b : Bool) (n : ℕ) → n < 10 ^ 9 → FitsSigned w64 (cond b (neg_ℤ (pos n)) (pos n))
signed_fits true n h = omega (arith, ints)
signed_fits false n h = omega (arith, ints)

index_fits : (word : List ℕ) → IsNumeral 10 (without_leading_sign word) → length (without_leading_sign word) ≤ 9 → FitsSigned w64 (signed_digits_value 10 word)
index_fits word n h = signed_fits (starts_with_minus word) (digits_value 10 (without_leading_sign word))
    (omega (arith, digits_value-lt 10 (without_leading_sign word) n.1, pow-le-pow_right {n = 10} (lit< tt) h))

module _ (word : List ℕ) where
  abbrev digits : List ℕ
  digits = without_leading_sign word

  abbrev IsIndex : Type 0
  IsIndex = ((slice_index word 0 ≢ 43) × IsNumeral 10 digits) × (length digits ≤ 9)

  index : Decides (not (slice_index word 0 == 43) && is_numeral digits && nat_le (length digits) 9) IsIndex
  index = Decides-and (not (slice_index word 0 == 43) && is_numeral digits) (nat_le (length digits) 9)
      (Decides-and (not (slice_index word 0 == 43)) (is_numeral digits) (Decides-not (slice_index word 0 == 43) (Decides-eqb (slice_index word 0) 43)) (numeral digits))
      (Decides-le (length digits) 9)

  pub parsed : {E : Type 0} (r : Result ℤ E) → slice_index word 0 ≢ 43 → length digits ≤ 9 → ParsesSigned w64 10 word r → result_ok r ≡ index_of word
  unfolding index_of
  parsed (Ok x) plus short h = ap Some h.1 ∙ some_if _ _ index ((plus, h.0.0), short)
  parsed (Err e) plus short h = none_if _ _ index (λ i. h (i.0.1, index_fits word i.0.1 short))

  pub too_long : ¬ ((slice_index word 0 ≢ 43) × (length digits ≤ 9)) → None ≡ index_of word
  unfolding index_of
  too_long none = none_if _ _ index (λ i. none (i.0.0, i.1))
