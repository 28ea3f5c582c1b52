-- The trees of the grammar that write the terms of a part.
use Rattle.std.proofs.Common.{Bool, true, refl, cond, inl, inr, lt-ltb, le-ltb, le_antisymm, ◌≡◌, ℕ, zero, suc, ◌*◌, ◌/◌, ◌<◌, ◌≤◌, false, List, [], ◌∷◌, ◌++◌, ℤ, pos, negsuc, ◌+ℤ◌, neg_ℤ, refl, sym, ap, subst, ◌∙◌, arith}
use Rattle.std.specs.Int.{◌∣◌}
use Rattle.std.specs.Fmt.{decimal as decimal_text, signed_decimal}
use Rattle.std.proofs.lemmas.Bool.{cases_lt}
use Rattle.std.proofs.lemmas.Fmt.{decimal_digit}
use Rattle.std.proofs.lemmas.List.{append-nil}
use Rattle.std.proofs.Math.Nat.{dvd-mul_left, mul-div_cancel, mul-div_cancel', pos_of_dvd_of_pos}
use Rattle.integers.specs.Size.{IsWithin}
use Rattle.integers.proofs.Ring.{abs-neg}
use Rattle.fractions.specs.declared.part.TheConstants.{UNIT}
use Rattle.fractions.specs.LowestTerms.{gcd, signed_gcd, lowest_terms}
use Rattle.fractions.specs.RatioText.{denominator_text as below_text}
use Rattle.fractions.proofs.Gcd.{IsGcd-gcd}
use Rattle.triplets.specs.declared.notation.Notation.TheVariants.{Triplets}
use Rattle.triplets.specs.declared.marks.Axis.TheVariants.{X}
use Rattle.triplets.specs.Marks.{has_axis}
use Rattle.triplets.specs.declared.marks.Axis.{Axis}
use Rattle.motions.specs.declared.motion.Sign.{Sign}
use Rattle.motions.specs.declared.motion.Sign.TheVariants.{Plus, Minus}
use Rattle.triplets.specs.declared.part.Row.{Row}
use Rattle.triplets.specs.declared.part.Used.{Used}
use Rattle.triplets.specs.Bytes.{slash}
use Rattle.triplets.specs.Rows.{signed, with_entry, with_translation, uses, with_used}
use Rattle.triplets.specs.Denominators.{unit, parts}
use Rattle.triplets.specs.Grammar.{sign_byte, letter_byte, numerator_text, numerator_value, Term, letter, multiple, whole, fraction, term_text, with_term, with_letters, IsNew}
use Rattle.triplets.specs.Writing.{letter_term, number_term}
use Rattle.triplets.proofs.Divisors.{at_least_one}
use Rattle.triplets.proofs.NumberTrees.{digit, digit-value, numerator_tree}

-- the text is a sign and a term, which adds this to a row and to the letters of a part where the letters leave it free
pub record IsTerm (text : List ℕ) (add : Row → Row) (use_letter : Used → Used) (IsFree : Used → Type 0) : Type 0 where
  pub sign : Sign
  pub term : Term
  pub text_is : text ≡ sign_byte sign ∷ term_text term
  pub row_is : (r : Row) → with_term sign term r ≡ add r
  pub letters_are : (u : Used) → with_letters term u ≡ use_letter u
  pub new : (u : Used) → IsFree u → IsNew Triplets term u

-- ---- letters

abbrev pub IsLetter : Axis → ℤ → Type 0
IsLetter a c = IsTerm (letter_term c (letter_byte a false ∷ [])) (with_entry a c) (with_used a) (λ u. uses a u ≡ false)

-- a letter with its sign alone
-- triplets have all letters
all_axes : (a : Axis) → has_axis Triplets a ≡ true
all_axes X = refl
all_axes a = refl

single : (s : Sign) (a : Axis) (c : ℤ) → signed s 1 ≡ c → letter_term c (letter_byte a false ∷ []) ≡ sign_byte s ∷ letter_byte a false ∷ []
    → IsLetter a c
single s a c value text = record {
  sign = s;
  term = letter a false;
  text_is = text;
  row_is = λ r. ap (λ v. with_entry a v r) value;
  letters_are = λ u. refl;
  new = λ u free. (all_axes a, free);
}

-- a letter with a digit from 2 on
multiplied : (s : Sign) (a : Axis) (c : ℤ) (n : ℕ) → suc (suc n) < 10 → signed s (suc (suc n)) ≡ c
    → letter_term c (letter_byte a false ∷ []) ≡ sign_byte s ∷ (decimal_text (suc (suc n)) ++ letter_byte a false ∷ []) → IsLetter a c
multiplied s a c n below value text = record {
  sign = s;
  term = multiple (digit (suc (suc n)) below) (omega arith) a false;
  text_is = text ∙ ap (λ ds. sign_byte s ∷ (ds ++ letter_byte a false ∷ [])) (decimal_digit (suc (suc n)) below);
  row_is = λ r. ap (λ v. with_entry a v r) (ap (signed s) (digit-value (suc (suc n)) below) ∙ value);
  letters_are = λ u. refl;
  new = λ u free. (all_axes a, free);
}

pub letter_tree : (a : Axis) (c : ℤ) → IsWithin 9 c → ¬ (c ≡ pos 0) → IsLetter a c
letter_tree a (pos zero) h n = absurd (n refl)
letter_tree a (pos (suc zero)) h n = single Plus a (pos 1) refl refl
letter_tree a (pos (suc (suc n))) h _ = multiplied Plus a (pos (suc (suc n))) n (omega (arith, h.most)) refl refl
letter_tree a (negsuc zero) h n = single Minus a (negsuc 0) refl refl
letter_tree a (negsuc (suc n)) h _ = multiplied Minus a (negsuc (suc n)) n (omega (arith, h.most)) refl refl

-- ---- numbers

divides_by_quotient : (g n : ℕ) → g ∣ n → n / g ∣ n
divides_by_quotient g n h = subst (λ (k : ℕ). n / g ∣ k) (mul-div_cancel' g h) (dvd-mul_left (n / g) g)

quotient_positive : (g n : ℕ) → 0 < n → g ∣ n → 0 < n / g
quotient_positive g n above h = pos_of_dvd_of_pos (divides_by_quotient g n h) above

div-div : (g n : ℕ) → 0 < n → g ∣ n → n / (n / g) ≡ g
div-div g n above h =
    ap (λ k. k / (n / g)) (sym (mul-div_cancel' g h)) ∙ mul-div_cancel g (quotient_positive g n above h)

-- what stands behind the numerator
below_more : (d : ℕ) → 1 < d → below_text (pos d) ≡ slash ∷ decimal_text d
below_more d h = ap (λ (b : Bool). cond b (slash ∷ decimal_text d) []) (lt-ltb 1 d h)

below_one : (d : ℕ) → d ≤ 1 → below_text (pos d) ≡ []
below_one d h = ap (λ (b : Bool). cond b (slash ∷ decimal_text d) []) (le-ltb 1 d h)

-- n parts as a numerator over a denominator, where g divides both n and the number of parts
record IsOver (n g : ℕ) : Type 0 where
  term : Term
  text : term_text term ≡ decimal_text (n / g) ++ below_text (pos (unit / g))
  row_is : (s : Sign) (r : Row) → with_term s term r ≡ with_translation s n r
  letters_are : (u : Used) → with_letters term u ≡ u
  new : (u : Used) → IsNew Triplets term u

over_tree : (n g : ℕ) → 0 < n → g ∣ n → g ∣ unit → n / g ≤ 999 → IsOver n g
over_tree n g above in_n in_unit short =
    let w = numerator_tree (n / g) short in
    let d : ℕ = unit / g in
    let divides : d ∣ unit = divides_by_quotient g unit in_unit in
    let each : parts d ≡ g = div-div g unit (omega arith) in_unit in
    let all : parts d * numerator_value w.by ≡ n = (λ i. each i * w.value i) ∙ mul-div_cancel' g in_n in
    elim (cases_lt 1 d) [
      | inl more ↦ record {
        term = fraction w.by (record { number = d; divides = divides });
        text = λ i. w.text i ++ sym (below_more d more) i;
        row_is = λ s r. ap (λ k. with_translation s k r) all;
        letters_are = λ u. refl;
        new = λ u. tt;
      }
      | inr most ↦
          let one : 1 ≡ d = le_antisymm (at_least_one d divides) most in
          record {
            term = whole w.by;
            text = sym (append-nil (numerator_text w.by)) ∙ (λ i. w.text i ++ sym (below_one d most) i);
            row_is = λ s r. ap (λ k. with_translation s k r) (ap (λ k. parts k * numerator_value w.by) one ∙ all);
            letters_are = λ u. refl;
            new = λ u. tt;
          }
    ]

signed_decimal-neg : (k : ℕ) → 0 < k → signed_decimal (neg_ℤ (pos k)) ≡ sign_byte Minus ∷ decimal_text k
signed_decimal-neg zero h = absurd (omega arith)
signed_decimal-neg (suc k) h = refl

abbrev pub IsNumber : ℤ → Type 0
IsNumber t = IsTerm (number_term t) (λ r. record r { translation = r.translation +ℤ t }) (λ u. u) (λ u. Unit {0})

pub number_tree : (t : ℤ) → IsWithin 999 (lowest_terms t UNIT).num → ¬ (t ≡ pos 0) → IsNumber t
unfolding lowest_terms signed_gcd
number_tree (pos zero) h n = absurd (n refl)
number_tree (pos (suc n)) h _ =
    let g : ℕ = gcd (suc n) unit in
    let divides = IsGcd-gcd (suc n) unit in
    let o = over_tree (suc n) g (omega arith) divides.0 divides.1 h.most in
    record {
      sign = Plus;
      term = o.term;
      text_is = ap (λ ts. sign_byte Plus ∷ ts) (sym o.text);
      row_is = o.row_is Plus;
      letters_are = o.letters_are;
      new = λ u free. o.new u;
    }
number_tree (negsuc n) h _ =
    let g : ℕ = gcd (suc n) unit in
    let divides = IsGcd-gcd (suc n) unit in
    let short : suc n / g ≤ 999 = subst (λ k. k ≤ 999) (abs-neg (suc n / g)) h.most in
    let o = over_tree (suc n) g (omega arith) divides.0 divides.1 short in
    let minus = signed_decimal-neg (suc n / g) (quotient_positive g (suc n) (omega arith) divides.0) in
    record {
      sign = Minus;
      term = o.term;
      text_is = ap (λ ts. ts ++ below_text (pos (unit / g))) minus ∙ ap (λ ts. sign_byte Minus ∷ ts) (sym o.text);
      row_is = o.row_is Minus;
      letters_are = o.letters_are;
      new = λ u free. o.new u;
    }
