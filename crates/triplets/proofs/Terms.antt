-- The terms of a part, one behind another.
use Rattle.std.proofs.Common.{◌≡◌, ◌≢◌, ◌⊎◌, inl, inr, ℕ, zero, suc, ◌+◌, ◌/◌, ◌%◌, ◌<◌, ◌≤◌, ◌==◌, nat_lt, Bool, true, false, cond, if◌then◌else◌, ℤ, pos, negsuc, ◌≤ℤ◌, List, [], ◌∷◌, ◌++◌, length, drop, get_or, refl, ap, arith, length-append}
use Rattle.std.specs.Fmt.{digits, digits_onto, digit_glyph, decimal, signed_decimal}
use Rattle.std.specs.Str.Parse.{without_leading_plus}
use Rattle.std.proofs.lemmas.Int.{ints}
use Rattle.std.proofs.lemmas.Str.Parse.{without_leading_plus_none}
use Rattle.std.proofs.lemmas.List.{get_or_append_left}
use Rattle.triplets.specs.Writing.{letter_term, number_term, number_text, placed}

-- the first byte is a digit or stands behind them
pub record BeginsWithDigit (bs : List ℕ) : Type 0 where
  pub shows : 0 < length bs
  pub first : 48 ≤ get_or bs 0 0

glyph_begins : (d : ℕ) (acc : List ℕ) → BeginsWithDigit (digit_glyph false d ∷ acc)
glyph_begins d acc = record {
  shows = omega arith;
  first = elim (nat_lt d 10) as (λ v. 48 ≤ (if v then 48 + d else 87 + d)) [ true ↦ omega arith | false ↦ omega arith ];
}

digits_begin : (k n : ℕ) (acc : List ℕ) → BeginsWithDigit acc → BeginsWithDigit (digits_onto k 10 false n acc)
digits_begin zero n acc h = h
digits_begin (suc k) n acc h =
    let glyph : ℕ = digit_glyph false (n % 10) in
    elim (n / 10 == 0) as (λ v. BeginsWithDigit (if v then glyph ∷ acc else digits_onto k 10 false (n / 10) (glyph ∷ acc)))
    [ true ↦ glyph_begins (n % 10) acc | false ↦ digits_begin k (n / 10) (glyph ∷ acc) (glyph_begins (n % 10) acc) ]

first_digits_begin : (k n : ℕ) → BeginsWithDigit (digits_onto (suc k) 10 false n [])
first_digits_begin k n =
    let glyph : ℕ = digit_glyph false (n % 10) in
    elim (n / 10 == 0) as (λ v. BeginsWithDigit (if v then glyph ∷ [] else digits_onto k 10 false (n / 10) (glyph ∷ [])))
    [ true ↦ glyph_begins (n % 10) [] | false ↦ digits_begin k (n / 10) (glyph ∷ []) (glyph_begins (n % 10) []) ]

pub decimal_begins : (n : ℕ) → BeginsWithDigit (decimal n)
unfolding digits
decimal_begins n = first_digits_begin 63 n

without_leading_plus-cons : (v : Bool) (b : ℕ) (bs c : List ℕ) → drop (cond v 1 0) (b ∷ (bs ++ c)) ≡ drop (cond v 1 0) (b ∷ bs) ++ c
without_leading_plus-cons true b bs c = refl
without_leading_plus-cons false b bs c = refl

-- behind what shows stands what follows
pub without_leading_plus-more : (a b : List ℕ) → 0 < length (without_leading_plus a)
    → without_leading_plus (a ++ b) ≡ without_leading_plus a ++ b
without_leading_plus-more [] b h = absurd (omega arith)
without_leading_plus-more (a ∷ as_) b h = without_leading_plus-cons (a == 43) a as_ b

letter_after : (text : List ℕ) (letter : ℕ) → 0 < length (text ++ letter ∷ [])
letter_after text letter = omega (arith, length-append text (letter ∷ []))

-- the term of what is not 0 shows
pub letter_shows : (c : ℤ) (letter : ℕ) → ¬ (c ≡ pos 0) → 0 < length (without_leading_plus (letter_term c (letter ∷ [])))
letter_shows (pos zero) letter n = absurd (n refl)
letter_shows (pos (suc zero)) letter n = omega arith
letter_shows (pos (suc (suc k))) letter n = letter_after (decimal (suc (suc k))) letter
letter_shows (negsuc zero) letter n = omega arith
letter_shows (negsuc (suc k)) letter n = omega arith

signed_decimal_shows : (z : ℤ) (after : List ℕ) → 0 < length (signed_decimal z ++ after)
signed_decimal_shows (pos n) after = omega (arith, length-append (decimal n) after, (decimal_begins n).shows)
signed_decimal_shows (negsuc n) after = omega arith

signed_decimal_has_no_plus : (z : ℤ) (after : List ℕ) → get_or (signed_decimal z ++ after) 0 0 ≢ 43
signed_decimal_has_no_plus (pos n) after =
    λ e. omega (arith, get_or_append_left (decimal n) after 0 0 (decimal_begins n).shows, (decimal_begins n).first)
signed_decimal_has_no_plus (negsuc n) after = λ e. omega arith

pub number_text_has_no_plus : (t : ℤ) → without_leading_plus (number_text t) ≡ number_text t
number_text_has_no_plus t = without_leading_plus_none (number_text t) (signed_decimal_has_no_plus _ _)

pub number_text_shows : (t : ℤ) → 0 < length (number_text t)
number_text_shows t = signed_decimal_shows _ _

pub number_term_shows : (t : ℤ) → ¬ (t ≡ pos 0) → 0 < length (without_leading_plus (number_term t))
number_term_shows (pos zero) n = absurd (n refl)
number_term_shows (pos (suc k)) n = number_text_shows (pos (suc k))
number_term_shows (negsuc k) n = omega (arith, number_text_shows (negsuc k), ap length (number_text_has_no_plus (negsuc k)))

-- a number that is first or negative has no plus
pub placed-no_plus : (first : Bool) (t : ℤ) → ¬ (t ≡ pos 0) → (first ≡ true) ⊎ (t ≤ℤ pos 0) → placed first (number_term t) ≡ number_text t
placed-no_plus first (pos zero) n h = absurd (n refl)
placed-no_plus true (pos (suc k)) n h = refl
placed-no_plus false (pos (suc k)) n (inl e) = cc
placed-no_plus false (pos (suc k)) n (inr h) = absurd (omega (arith, ints))
placed-no_plus true (negsuc k) n h = number_text_has_no_plus (negsuc k)
placed-no_plus false (negsuc k) n h = refl
