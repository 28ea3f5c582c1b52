-- The number that a run of digits writes, digit by digit.
use Rattle.std.proofs.Common.{◌≡◌, ℕ, ◌+◌, ◌-◌, ◌*◌, ◌^◌, ◌<◌, ◌≤◌, ◌==◌, Bool, true, false, cond, ◌&&◌, List, [], ◌∷◌, length, take, drop, get_or, arith, refl, sym, subst, take_while}
use Rattle.std.proofs.lemmas.Bool.{eqb-true}
use Rattle.std.proofs.lemmas.Bool.Decides.{nat_tests}
use Rattle.std.specs.List.{list_all, prefix_len}
use Rattle.std.specs.Char.{digit_value, is_ascii_digit}
use Rattle.std.specs.Str.Parse.{AllDigits, digits_value, digits_value_after}
use Rattle.std.proofs.lemmas.List.{take_rest}
use Rattle.std.proofs.lemmas.List.Folds.{length-prefix_len}
use Rattle.std.proofs.lemmas.List.Sums.{take_while-cons}
use Rattle.std.proofs.lemmas.Str.{digit_value_digit}
use Rattle.std.proofs.lemmas.Str.Parse.{digit_at, digit_from_value, digits_value-take-le, digits_value_short, numerals_by_value, tells_digits}
use Rattle.std.proofs.lemmas.Int.Digits.{digits_value_more}

pub digits_value-short : (ds : List ℕ) → AllDigits 10 ds → length ds ≤ 18 → digits_value 10 ds < 10 ^ 18
digits_value-short ds digits short = digits_value_short (numerals_by_value _ tells_digits) ds 18 digits short

-- the number n of the first i digits, and the next digit behind them
pub record IsNext (ds : List ℕ) (n i : ℕ) : Type 0 where
  pub is_digit : 48 ≤ get_or ds i 0
  pub grows : n * 10 + (get_or ds i 0 - 48) ≡ digits_value 10 (take (i + 1) ds)
  pub below : n * 10 + (get_or ds i 0 - 48) < 10 ^ 18

pub next_digit : (ds : List ℕ) (n i : ℕ) → AllDigits 10 ds → length ds ≤ 18 → i < length ds → n ≡ digits_value 10 (take i ds) → IsNext ds n i
next_digit ds n i digits short inside e =
    let range = digit_at ds i digits inside in
    let worth = digit_value_digit (get_or ds i 0) range in
    let more = digits_value_more 10 ds i inside in
    let le = digits_value-take-le 10 ds (i + 1) (omega arith) in
    let most = digits_value-short ds digits short in
    record { is_digit = omega arith; grows = omega arith; below = omega arith }

-- ---- the run

below_ten : (x : ℕ) → is_ascii_digit x ≡ true → digit_value x < 10
below_ten x e = grind (arith, nat_tests)

front_digits : (x : ℕ) (xs : List ℕ) (passes : Bool) → is_ascii_digit x ≡ passes → AllDigits 10 (take_while is_ascii_digit xs)
    → AllDigits 10 (cond passes (x ∷ take_while is_ascii_digit xs) [])
front_digits x xs true e rest = (below_ten x e, rest)
front_digits x xs false e rest = tt

pub AllDigits-take_while : (xs : List ℕ) → AllDigits 10 (take_while is_ascii_digit xs)
AllDigits-take_while [] = tt
AllDigits-take_while (x ∷ xs) =
    subst (AllDigits 10) (sym (take_while-cons is_ascii_digit x xs)) (front_digits x xs (is_ascii_digit x) refl (AllDigits-take_while xs))

-- the n bytes from a place on are digits, where n digits stand in front of what is behind the place
pub AllDigits-take : (bytes : List ℕ) (place n : ℕ) → n ≡ length (take_while is_ascii_digit (take (length bytes - place) (drop place bytes)))
    → AllDigits 10 (take (place + n - place) (drop place bytes))
AllDigits-take bytes place n e =
    let rest = drop place bytes in
    let f : n ≡ length (take_while is_ascii_digit rest) = rw take_rest at e in
    let count = length-prefix_len is_ascii_digit rest in
    let k : place + n - place ≡ prefix_len is_ascii_digit rest = omega arith in
    subst (λ (i : ℕ). AllDigits 10 (take i rest)) (sym k) (AllDigits-take_while rest)

-- ---- zeros

both_true : (a b : Bool) → (a && b) ≡ true → (a ≡ true) × (b ≡ true)
both_true true b e = (refl, e)
both_true false b e = cc

pub digits_value_zeros : (n : ℕ) (ds : List ℕ) → AllDigits 10 ds → digits_value_after 10 n ds ≡ 0 → (n ≡ 0) × (list_all (λ d. d == 48) ds ≡ true)
digits_value_zeros n [] digits e = (e, refl)
digits_value_zeros n (d ∷ ds) digits e =
    let rest = digits_value_zeros (n * 10 + digit_value d) ds digits.1 e in
    let range = digit_from_value d digits.0 in
    let worth = digit_value_digit d range in
    let zero_digit : d ≡ 48 = omega arith in
    (omega arith, rw zero_digit rest.1)

pub zeros_value : (ds : List ℕ) → list_all (λ d. d == 48) ds ≡ true → digits_value 10 ds ≡ 0
zeros_value [] e = refl
zeros_value (d ∷ ds) e =
    let both = both_true (d == 48) (list_all (λ x. x == 48) ds) e in
    rw (eqb-true d 48 both.0) (zeros_value ds both.1)

pub no_zeros : (ds : List ℕ) → ¬ (digits_value 10 ds ≡ 0) → list_all (λ d. d == 48) ds ≡ false
no_zeros ds n = by_test (list_all (λ d. d == 48) ds) refl
  where
    by_test : (b : Bool) → list_all (λ d. d == 48) ds ≡ b → b ≡ false
    by_test true e = absurd (n (zeros_value ds e))
    by_test false e = refl
