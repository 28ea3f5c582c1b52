-- The number that a word is.
use Rattle.std.proofs.Common.{◌≡◌, ◌≢◌, ℕ, ◌<◌, ◌≤◌, ◌^◌, List, [], ◌∷◌, length, drop, cond, None, Some, Result, Ok, Err, Bool, slice_index, sym, ap, ◌∙◌, subst, arith}
use Rattle.std.specs.Prelude.{◌&&◌, nat_le}
use Rattle.std.specs.Result.{result_ok}
use Rattle.std.proofs.lemmas.Bool.{ne_eqb}
use Rattle.std.specs.Bool.{Decides}
use Rattle.std.specs.Str.Parse.{IsNumeral, digits_value, without_leading_plus, ParsesUnsigned}
use Rattle.std.proofs.lemmas.Bool.Decides.{Decides-and, nat_tests}
use Rattle.requests.specs.Words.{is_numeral}
use Rattle.command.specs.Numbers.{number_word}
use Rattle.requests.proofs.Numerals.{numeral, Decides-le, some_if, none_if}

-- one to three digits, a number from 1 to the most
pub record IsNumberWord (most : ℕ) (word : List ℕ) : Type 0 where
  pub numeral : IsNumeral 10 word
  pub short : length word ≤ 3
  pub least : 1 ≤ digits_value 10 word
  pub within : digits_value 10 word ≤ most

module _ (most : ℕ) (word : List ℕ) where
  abbrev n : ℕ
  n = digits_value 10 word

  tells : Decides (is_numeral word && nat_le (length word) 3 && nat_le 1 n && nat_le n most) (((IsNumeral 10 word × (length word ≤ 3)) × (1 ≤ n)) × (n ≤ most))
  tells = Decides-and (is_numeral word && nat_le (length word) 3 && nat_le 1 n) (nat_le n most)
      (Decides-and (is_numeral word && nat_le (length word) 3) (nat_le 1 n)
      (Decides-and (is_numeral word) (nat_le (length word) 3) (numeral word) (Decides-le (length word) 3)) (Decides-le 1 n))
      (Decides-le n most)

  pub number_read : IsNumberWord most word → Some (digits_value 10 word) ≡ number_word most word
  unfolding number_word
  number_read h = some_if _ _ tells (((h.numeral, h.short), h.least), h.within)

  pub no_number_read : ¬ IsNumberWord most word → None ≡ number_word most word
  unfolding number_word
  no_number_read none = none_if _ _ tells (λ h. none (record { numeral = h.0.0.0; short = h.0.0.1; least = h.0.1; within = h.1 }))

-- ---- what `parse` gives

no_plus : (word : List ℕ) → IsNumeral 10 word → slice_index word 0 ≢ 43
no_plus [] h e = absurd (omega (arith, h.0))
no_plus (x ∷ xs) h e = let digit = h.1.0 in grind (arith, nat_tests)

plain : (word : List ℕ) → slice_index word 0 ≢ 43 → without_leading_plus word ≡ word
plain word other = ap (λ (b : Bool). drop (cond b 1 0) word) (ne_eqb (slice_index word 0) 43 other)

module _ (most : ℕ) (word : List ℕ) where
  pub not_short : ¬ ((slice_index word 0 ≢ 43) × (length word ≤ 3)) → ¬ IsNumberWord most word
  not_short none h = none (no_plus word h.numeral, h.short)

  module _ {E : Type 0} where
    pub not_parsed : most < 2 ^ 16 → (r : Result ℕ E) → ParsesUnsigned 16 10 word r → result_ok r ≡ None → ¬ IsNumberWord most word
    not_parsed fits (Ok x) p e h = absurd cc
    not_parsed fits (Err x) p e h =
        let le = h.within in
        let small : digits_value 10 word < 2 ^ 16 = omega (arith, fits, le) in
        p (subst (λ ds. IsNumeral 10 ds × (digits_value 10 ds < 2 ^ 16)) (sym (plain word (no_plus word h.numeral))) (h.numeral, small))

    pub parsed_number : (n : ℕ) (r : Result ℕ E) → ParsesUnsigned 16 10 word r → result_ok r ≡ Some n → slice_index word 0 ≢ 43
        → IsNumeral 10 word × (n ≡ digits_value 10 word)
    parsed_number m (Ok x) p e other =
        let is : x ≡ m = cc in
        (subst (IsNumeral 10) (plain word other) p.0.0, sym is ∙ p.1 ∙ ap (digits_value 10) (plain word other))
    parsed_number m (Err x) p e other = absurd cc
