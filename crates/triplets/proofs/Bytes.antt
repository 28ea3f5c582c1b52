-- What the bytes of the grammar mean to the reader.
use Rattle.std.proofs.Common.{◌≡◌, ℕ, ◌≤◌, Bool, true, false, cond, refl, arith, inl, inr, ◌⊎◌, List, [], ◌∷◌, Result, Ok, ap, ◌∙◌}
use Rattle.std.specs.Prelude.{◌==◌, nat_le, ◌&&◌}
use Rattle.std.proofs.lemmas.Bool.Decides.{nat_tests, eqb_tells}
use Rattle.std.proofs.lemmas.Bool.{cases_lt}
use Rattle.triplets.specs.declared.notation.Notation.{Notation}
use Rattle.triplets.specs.declared.marks.Axis.{Axis}
use Rattle.triplets.specs.declared.marks.Axis.TheVariants.{X, Y, Z}
use Rattle.motions.specs.declared.motion.Sign.{Sign}
use Rattle.motions.specs.declared.motion.Sign.TheVariants.{Plus, Minus}
use Rattle.triplets.specs.declared.marks.Mark.{Mark}
use Rattle.triplets.specs.declared.marks.Mark.TheVariants as marks
use Rattle.triplets.specs.declared.notation.Notation.TheVariants.{Triplets, Pairs}
use Rattle.triplets.specs.Marks.{has_axis, third_letter, mark}
use Rattle.triplets.specs.Grammar.{Blank, space, tab, carriage_return, blank_byte, sign_byte, letter_byte, Digit, digit_value, blanks_text}
use Rattle.triplets.specs.Runs.{run_by}

pub mark_sign : (nt : Notation) → (s : Sign) → mark nt (sign_byte s) ≡ marks.Signs s
mark_sign nt Plus = refl
mark_sign nt Minus = refl

pub mark_letter : (nt : Notation) → (a : Axis) (c : Bool) → has_axis nt a ≡ true → mark nt (letter_byte a c) ≡ marks.Letter a
mark_letter nt X false h = refl
mark_letter nt X true h = refl
mark_letter nt Y false h = refl
mark_letter nt Y true h = refl
mark_letter Triplets Z false h = refl
mark_letter Triplets Z true h = refl
mark_letter Pairs Z c h = absurd cc

digit_test : (b : ℕ) → 48 ≤ b → b ≤ 57 → (nat_le 48 b && nat_le b 57) ≡ true
digit_test b low high = grind (arith, nat_tests)

pub mark_digit : (nt : Notation) → (d : Digit) → mark nt d.byte ≡ marks.Digit (digit_value d)
mark_digit nt d = rw (digit_test d.byte d.low d.high)

-- the bytes with a meaning
abbrev pub IsMark : Notation → ℕ → Mark → Type 0
IsMark nt b marks.Blank = (k : Blank) × (b ≡ blank_byte k)
IsMark nt b (marks.Signs s) = b ≡ sign_byte s
IsMark nt b (marks.Letter a) = (c : Bool) × (b ≡ letter_byte a c) × (has_axis nt a ≡ true)
IsMark nt b (marks.Digit n) = (d : Digit) × (b ≡ d.byte) × (n ≡ digit_value d)
IsMark nt b marks.Slash = b ≡ 47
IsMark nt b marks.Comma = b ≡ 44
IsMark nt b marks.Hash = b ≡ 35
IsMark nt b marks.Open = b ≡ 40
IsMark nt b marks.Close = b ≡ 41
IsMark nt b marks.Other = Unit {0}

third_mark : (nt : Notation) (b : ℕ) (c : Bool) → b ≡ letter_byte Z c → IsMark nt b (third_letter nt)
third_mark Triplets b c e = (c, e, refl)
third_mark Pairs b c e = tt

choose : (nt : Notation) → (b k : ℕ) (x y : Mark) → (b ≡ k → IsMark nt b x) → IsMark nt b y → IsMark nt b (cond (b == k) x y)
choose nt b k x y f g =
    elim (eqb_tells b k) [
      | inl h ↦ rw h.0 (f h.1)
      | inr h ↦ rw h.0 g
    ]

is_digit_cases : (b : ℕ) → (((nat_le 48 b && nat_le b 57) ≡ true) × (48 ≤ b) × (b ≤ 57)) ⊎ ((nat_le 48 b && nat_le b 57) ≡ false)
is_digit_cases b =
    elim (cases_lt b 48) [
      | inl h ↦ inr (grind (arith, nat_tests))
      | inr h ↦ elim (cases_lt 57 b) [
        | inl k ↦ inr (grind (arith, nat_tests))
        | inr k ↦ inl (digit_test b h k, h, k)
      ]
    ]

pub mark_is : (nt : Notation) → (b : ℕ) → IsMark nt b (mark nt b)
mark_is nt b =
    elim (is_digit_cases b) [
      | inl h ↦ rw h.0 (record { byte = b; low = h.1; high = h.2 }, refl, refl)
      | inr h ↦ rw h (
          choose nt b 32 _ _ (λ e. (space, e)) (
          choose nt b 9 _ _ (λ e. (tab, e)) (
          choose nt b 13 _ _ (λ e. (carriage_return, e)) (
          choose nt b 43 _ _ (λ e. e) (
          choose nt b 45 _ _ (λ e. e) (
          choose nt b 120 _ _ (λ e. (false, e, refl)) (
          choose nt b 88 _ _ (λ e. (true, e, refl)) (
          choose nt b 121 _ _ (λ e. (false, e, refl)) (
          choose nt b 89 _ _ (λ e. (true, e, refl)) (
          choose nt b 122 _ _ (third_mark nt b false) (
          choose nt b 90 _ _ (third_mark nt b true) (
          choose nt b 47 _ _ (λ e. e) (
          choose nt b 44 _ _ (λ e. e) (
          choose nt b 35 _ _ (λ e. e) (
          choose nt b 40 _ _ (λ e. e) (
          choose nt b 41 _ _ (λ e. e) tt))))))))))))))))
    ]

pub mark_blank : (nt : Notation) → (k : Blank) → mark nt (blank_byte k) ≡ marks.Blank
mark_blank nt space = refl
mark_blank nt k = refl

-- a place that a blank keeps is kept by blanks
pub blanks_keep : {S E : Type 0} (nt : Notation) (step : Mark → S → Result S E) (s : S) → step marks.Blank s ≡ Ok s → (bs : List Blank) → run_by (λ b. step (mark nt b)) (Ok s) (blanks_text bs) ≡ Ok s
blanks_keep nt step s e [] = refl
blanks_keep nt step s e (k ∷ bs) = ap (λ r. run_by (λ b. step (mark nt b)) r (blanks_text bs)) (ap (λ m. step m s) (mark_blank nt k) ∙ e) ∙ blanks_keep nt step s e bs
