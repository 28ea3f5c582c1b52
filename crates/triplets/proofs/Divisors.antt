-- The denominators: what the reader's test tells, and their digits.
use Rattle.std.proofs.Common.{◌≡◌, ℕ, ◌+◌, ◌*◌, ◌/◌, ◌%◌, ◌<◌, ◌≤◌, Bool, true, false, cond, List, [], ◌∷◌, ◌++◌, length, get_or, Option, Some, None, zero-add, refl, sym, ap, subst, ◌∙◌, arith, lt-ltb, le-leb, eq-eqb, eqb-true}
use Rattle.std.specs.Prelude.{nat_le, ◌&&◌}
use Rattle.std.specs.List.{list_all, range_with_len}
use Rattle.std.specs.Fmt.{decimal}
use Rattle.std.specs.Int.{◌∣◌}
use Rattle.std.proofs.lemmas.Bool.{and_from, and_parts}
use Rattle.std.proofs.lemmas.Fmt.{decimal_digit, decimal_step}
use Rattle.std.proofs.lemmas.List.FromFn.{length-range_with_len, get_or-range_with_len}
use Rattle.std.proofs.lemmas.List.Sums.{AllPass-from_list_all}
use Rattle.std.proofs.lemmas.Nat.Gcd.{le_of_dvd, mod-eq-zero_of_dvd, dvd_of_mod-eq-zero}
use Rattle.std.proofs.Math.Nat.{one-dvd, pos_of_dvd_of_pos}
use Rattle.triplets.specs.Denominators.{unit, Denominator, is_denominator, further_digit}
use Rattle.triplets.specs.Grammar.{Digit, digit_value}

pub one : Denominator
one = record { number = 1; divides = one-dvd unit }

pub at_least_one : (n : ℕ) → n ∣ unit → 1 ≤ n
at_least_one n h = pos_of_dvd_of_pos h (omega arith)

pub at_most_unit : (n : ℕ) → n ∣ unit → n ≤ unit
at_most_unit n h = le_of_dvd (omega arith) h

-- ---- the test

pub test_passes : (n : ℕ) → n ∣ unit → is_denominator n ≡ true
test_passes n h = and_from _ _ (lt-ltb 0 n (at_least_one n h)) (eq-eqb (unit % n) 0 (mod-eq-zero_of_dvd n h))

test_tells : (n : ℕ) → is_denominator n ≡ true → n ∣ unit
test_tells n h = dvd_of_mod-eq-zero n (eqb-true (unit % n) 0 (and_parts _ _ h).1)

abbrev chosen : Bool → ℕ → Option ℕ
chosen b n = cond b (Some n) None

pub further_is : (n d m : ℕ) → 10 * n + d ≡ m → m ∣ unit → further_digit n d ≡ Some m
further_is n d m e h = ap (λ k. chosen (is_denominator k) k) e ∙ ap (λ b. chosen b m) (test_passes m h)

chosen_is : (b : Bool) (k m : ℕ) → chosen b k ≡ Some m → (b ≡ true) × (k ≡ m)
chosen_is true k m h = (refl, cc)
chosen_is false k m h = absurd cc

pub further_tells : (n d m : ℕ) → further_digit n d ≡ Some m → (10 * n + d ≡ m) × (m ∣ unit)
further_tells n d m h =
    let c = chosen_is _ _ m h in
    (c.1, subst (λ k. k ∣ unit) c.1 (test_tells _ c.0))

-- ---- the digits

-- each beginning of a denominator is a denominator
is_begun : ℕ → Bool
is_begun n = cond (nat_le 10 n && is_denominator n) (is_denominator (n / 10)) true

all_begun : list_all is_begun (range_with_len 0 (unit + 1)) ≡ true
unfolding is_begun
all_begun = refl

begun : (n : ℕ) → n ≤ unit → is_begun n ≡ true
begun n h =
    let numbers : List ℕ = range_with_len 0 (unit + 1) in
    let within : n < length numbers = omega (arith, length-range_with_len 0 (unit + 1)) in
    let at : get_or numbers n 0 ≡ n = get_or-range_with_len 0 (unit + 1) n 0 (omega arith) ∙ zero-add n in
    subst (λ (k : ℕ). is_begun k ≡ true) at (AllPass-from_list_all is_begun numbers all_begun n 0 within)

pub beginning_divides : (n : ℕ) → 10 ≤ n → n ∣ unit → n / 10 ∣ unit
unfolding is_begun
beginning_divides n above h =
    let tested : (nat_le 10 n && is_denominator n) ≡ true = and_from _ _ (le-leb 10 n above) (test_passes n h) in
    test_tells (n / 10) (ap (λ b. cond b (is_denominator (n / 10)) true) (sym tested) ∙ begun n (at_most_unit n h))

pub first_text : (d : Digit) (m : ℕ) → 10 * 0 + digit_value d ≡ m → d.byte ∷ [] ≡ decimal m
first_text d m e =
    let low = d.low in
    let high = d.high in
    let byte : d.byte ≡ 48 + m = omega (arith, e) in
    ap (λ b. b ∷ []) byte ∙ sym (decimal_digit m (omega (arith, e)))

pub further_text : (n : ℕ) (d : Digit) (m : ℕ) → 1 ≤ n → 10 * n + digit_value d ≡ m → m ∣ unit → decimal n ++ d.byte ∷ [] ≡ decimal m
further_text n d m above e h =
    let low = d.low in
    let high = d.high in
    let front : n ≡ m / 10 = omega (arith, e) in
    let end : d.byte ≡ 48 + m % 10 = omega (arith, e) in
    (λ i. decimal (front i) ++ end i ∷ []) ∙ sym (decimal_step m (omega (arith, e)) (omega (arith, at_most_unit m h)))
