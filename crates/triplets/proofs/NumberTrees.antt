-- The trees of the grammar that write numbers as `write_triplet` does.
use Rattle.std.proofs.Common.{◌≡◌, ℕ, ◌+◌, ◌/◌, ◌%◌, ◌<◌, ◌≤◌, [], ◌∷◌, ◌++◌, inl, inr, sym, ap, ◌∙◌, arith}
use Rattle.std.specs.Fmt.{decimal as decimal_text}
use Rattle.std.proofs.lemmas.Fmt.{decimal_digit, decimal_step}
use Rattle.std.proofs.lemmas.Bool.{cases_lt}
use Rattle.triplets.specs.Grammar.{Digit, digit_value, Numerator, numerator_text, numerator_value}

-- ---- digits

abbrev pub digit : (k : ℕ) → k < 10 → Digit
digit k h = record { byte = 48 + k; low = omega arith; high = omega arith }

pub digit-value : (k : ℕ) (h : k < 10) → digit_value (digit k h) ≡ k
digit-value k h = omega arith

two_digits : (n : ℕ) → 10 ≤ n → n < 100 → decimal_text n ≡ (48 + n / 10) ∷ (48 + n % 10) ∷ []
two_digits n low high =
    decimal_step n low (omega arith) ∙ ap (λ ds. ds ++ (48 + n % 10) ∷ []) (decimal_digit (n / 10) (omega arith))

three_digits : (n : ℕ) → 100 ≤ n → n < 1000 → decimal_text n ≡ (48 + n / 10 / 10) ∷ (48 + n / 10 % 10) ∷ (48 + n % 10) ∷ []
three_digits n low high =
    decimal_step n (omega arith) (omega arith)
    ∙ ap (λ ds. ds ++ (48 + n % 10) ∷ []) (two_digits (n / 10) (omega arith) (omega arith))

-- a numerator that is written as this number, and is it
pub record WritesNumber (n : ℕ) : Type 0 where
  pub by : Numerator
  pub text : numerator_text by ≡ decimal_text n
  pub value : numerator_value by ≡ n

one_digit_number : (n : ℕ) → n < 10 → WritesNumber n
one_digit_number n h = record {
  by = record { first = digit n h; others = []; short = omega arith };
  text = sym (decimal_digit n h);
  value = digit-value n h;
}

two_digit_number : (n : ℕ) → 10 ≤ n → n < 100 → WritesNumber n
two_digit_number n low high =
    let tens : n / 10 < 10 = omega arith in
    let ones : n % 10 < 10 = omega arith in
    record {
      by = record { first = digit (n / 10) tens; others = digit (n % 10) ones ∷ []; short = omega arith };
      text = sym (two_digits n low high);
      value = omega arith;
    }

three_digit_number : (n : ℕ) → 100 ≤ n → n < 1000 → WritesNumber n
three_digit_number n low high =
    let hundreds : n / 10 / 10 < 10 = omega arith in
    let tens : n / 10 % 10 < 10 = omega arith in
    let ones : n % 10 < 10 = omega arith in
    record {
      by = record { first = digit (n / 10 / 10) hundreds; others = digit (n / 10 % 10) tens ∷ digit (n % 10) ones ∷ []; short = omega arith };
      text = sym (three_digits n low high);
      value = omega arith;
    }

pub numerator_tree : (n : ℕ) → n ≤ 999 → WritesNumber n
numerator_tree n h = elim (cases_lt n 10) [
  | inl below ↦ one_digit_number n below
  | inr above ↦ elim (cases_lt n 100) [
    | inl below ↦ two_digit_number n above below
    | inr far ↦ three_digit_number n far (omega arith)
  ]
]
