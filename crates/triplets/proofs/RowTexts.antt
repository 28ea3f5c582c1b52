-- The terms of a row as they stand in it: each is the first that shows where all before it are 0.
use Rattle.std.proofs.Common.{◌≡◌, ℕ, ◌<◌, ◌==◌, Bool, true, false, ◌&&◌, ℤ, pos, List, [], ◌∷◌, ◌++◌, length, refl, sym, ap, ◌∙◌, arith, append_assoc, append-nil, FitsSigned, w64, to_z, of_z}
use Rattle.std.specs.Prelude.{codes}
use Rattle.std.specs.Str.Parse.{without_leading_plus}
use Rattle.std.proofs.lemmas.Bool.{eqb-true}
use Rattle.std.proofs.lemmas.Int.{to_z-of_z}
use Rattle.integers.proofs.Coded.{again}
use Rattle.triplets.specs.Writing.{letter_term, number_term, placed, or_zero, row_text}
use Rattle.triplets.proofs.Terms.{without_leading_plus-more, letter_shows, number_term_shows}

or_zero-shown : (a b : List ℕ) → 0 < length a → or_zero (a ++ b) ≡ a ++ b
or_zero-shown [] b h = absurd (omega arith)
or_zero-shown (a ∷ as_) b h = refl

-- the first term that shows, and those behind it
shown_first : (a b : List ℕ) → 0 < length (without_leading_plus a) → or_zero (without_leading_plus (a ++ b)) ≡ without_leading_plus a ++ b
shown_first a b h = ap or_zero (without_leading_plus-more a b h) ∙ or_zero-shown (without_leading_plus a) b h

-- the test tells whether the number is 0
record IsZeroTest (z : ℤ) (b : Bool) : Type 0 where
  zero : b ≡ true → z ≡ pos 0
  other : b ≡ false → ¬ (z ≡ pos 0)

no_letter : (c : ℤ) (letter : ℕ) → c ≡ pos 0 → letter_term c (letter ∷ []) ≡ []
no_letter c letter e = ap (λ k. letter_term k (letter ∷ [])) e

-- the terms of x, y, z and t
module _ (x y z t : ℤ) where
  abbrev first : List ℕ
  first = letter_term x (codes "x")

  abbrev second : List ℕ
  second = letter_term y (codes "y")

  abbrev third : List ℕ
  third = letter_term z (codes "z")

  abbrev number : List ℕ
  number = number_term t

  from_number : ¬ (t ≡ pos 0) → or_zero (without_leading_plus number) ≡ without_leading_plus number
  from_number n =
      ap (λ k. or_zero (without_leading_plus k)) (sym (append-nil number))
      ∙ shown_first number [] (number_term_shows t n) ∙ append-nil (without_leading_plus number)

  from_third : (s u : Bool) → IsZeroTest z s → IsZeroTest t u → (s && u) ≡ false
      → or_zero (without_leading_plus (third ++ number)) ≡ without_leading_plus third ++ placed s number
  from_third false u hz ht e = shown_first third number (letter_shows z 122 (hz.other refl))
  from_third true u hz ht e =
      let none = no_letter z 122 (hz.zero refl) in
      (λ i. or_zero (without_leading_plus (none i ++ number)))
      ∙ from_number (ht.other e) ∙ (λ i. without_leading_plus (sym none i) ++ placed true number)

  from_second : (q s u : Bool) → IsZeroTest y q → IsZeroTest z s → IsZeroTest t u → (q && s && u) ≡ false
      → or_zero (without_leading_plus (second ++ (third ++ number))) ≡ without_leading_plus second ++ (placed q third ++ placed (q && s) number)
  from_second false s u hy hz ht e = shown_first second (third ++ number) (letter_shows y 121 (hy.other refl))
  from_second true s u hy hz ht e =
      let none = no_letter y 121 (hy.zero refl) in
      (λ i. or_zero (without_leading_plus (none i ++ (third ++ number))))
      ∙ from_third s u hz ht e ∙ (λ i. without_leading_plus (sym none i) ++ (placed true third ++ placed s number))

  from_first : (p q s u : Bool) → IsZeroTest x p → IsZeroTest y q → IsZeroTest z s → IsZeroTest t u → (p && q && s && u) ≡ false
      → or_zero (without_leading_plus (first ++ (second ++ (third ++ number))))
      ≡ without_leading_plus first ++ (placed p second ++ (placed (p && q) third ++ placed (p && q && s) number))
  from_first false q s u hx hy hz ht e = shown_first first (second ++ (third ++ number)) (letter_shows x 120 (hx.other refl))
  from_first true q s u hx hy hz ht e =
      let none = no_letter x 120 (hx.zero refl) in
      (λ i. or_zero (without_leading_plus (none i ++ (second ++ (third ++ number)))))
      ∙ from_second q s u hy hz ht e
      ∙ (λ i. without_leading_plus (sym none i) ++ (placed true second ++ (placed q third ++ placed (q && s) number)))

  row_written : (p q s u : Bool) → IsZeroTest x p → IsZeroTest y q → IsZeroTest z s → IsZeroTest t u → (p && q && s && u) ≡ false
      → row_text (record { x = x; y = y; z = z }) t
      ≡ without_leading_plus first ++ (placed p second ++ (placed (p && q) third ++ placed (p && q && s) number))
  row_written p q s u hx hy hz ht e =
      ap (λ k. or_zero (without_leading_plus k)) (append_assoc (first ++ second) third number ∙ append_assoc first second (third ++ number))
      ∙ from_first p q s u hx hy hz ht e

zero_test : (z : ℤ) → FitsSigned w64 z → IsZeroTest z (of_z w64 z == 0)
zero_test z fits = record {
  zero = λ e. sym (to_z-of_z w64 z fits) ∙ ap (to_z w64) (eqb-true (of_z w64 z) 0 e);
  other = λ e k. let yes : (of_z w64 z == 0) ≡ true = ap (λ y. of_z w64 y == 0) k in cc;
}

-- the same, with the tests of the code
pub coded_row : (x y z t : ℤ) → FitsSigned w64 x → FitsSigned w64 y → FitsSigned w64 z → FitsSigned w64 t
    → let p = of_z w64 x == 0 in let q = of_z w64 y == 0 in let s = of_z w64 z == 0 in
    (p && q && s && (of_z w64 t == 0)) ≡ false
    → row_text (record { x = x; y = y; z = z }) t
    ≡ without_leading_plus (letter_term (again x) (codes "x"))
    ++ (placed p (letter_term (again y) (codes "y")) ++ (placed (p && q) (letter_term (again z) (codes "z")) ++ placed (p && q && s) (number_term t)))
coded_row x y z t fx fy fz ft e =
    let p = of_z w64 x == 0 in let q = of_z w64 y == 0 in let s = of_z w64 z == 0 in
    row_written x y z t _ _ _ _ (zero_test x fx) (zero_test y fy) (zero_test z fz) (zero_test t ft) e
    ∙ (λ i. without_leading_plus (letter_term (sym (to_z-of_z w64 x fx) i) (codes "x"))
    ++ (placed p (letter_term (sym (to_z-of_z w64 y fy) i) (codes "y")) ++ (placed (p && q) (letter_term (sym (to_z-of_z w64 z fz) i) (codes "z")) ++ placed (p && q && s) (number_term t))))
