-- Levels of heights, and the motions that take one to another.
use Rattle.std.proofs.Common.{◌≡◌, ◌↔◌, ℕ, ℤ, pos, ◌+ℤ◌, ◌-ℤ◌, ◌*ℤ◌, ◌≤ℤ◌, List, [], ◌∷◌, Bool, IsTrue, FitsSigned, w64, neg_ℤ, sym, ap, subst, ◌∙◌, arith}
use Rattle.std.proofs.lemmas.Int.{ints}
use Rattle.fractions.specs.declared.part.TheConstants.{UNIT}
use Rattle.integers.specs.Size.{IsWithin}
use Rattle.integers.proofs.Coded.{again, coded, code_fits, code_is, AllWithinBounds}
use Rattle.integers.proofs.Order.{mul_left_cancel_pos, one-le-mul}
use Rattle.integers.proofs.Solver.{Expr, Expr.{var, num, neg, ◌⊕◌, ◌⊝◌, ◌⊗◌}, linear, given}
use Rattle.symmetry.specs.Planes.{Height, IsHeight}
use Rattle.symmetry.specs.HeightMotions.{HeightMotion, TakesHeight}
use Rattle.plane_lattice.specs.Bounds.{largest_period}
use Rattle.scanning.specs.Bounds.{largest_level}
use Rattle.scanning.specs.Levels.{IsLevel}
use Rattle.orbits.specs.JoinedLevels.{TakesLevel}

-- ---- sizes

abbrev sizes : List ℕ
sizes = largest_level ∷ largest_period ∷ largest_level ∷ largest_period ∷ []

-- e x + 2 t - y, and 2 d
abbrev pub sum : Expr
sum = var 0 ⊕ num (pos 2) ⊗ var 1 ⊝ var 2

abbrev pub twice : Expr
twice = num (pos 2) ⊗ var 3

-- ---- levels

-- e p/q + (t + k d)/n = p'/q', with q x = 2 p n and q' y = 2 p' n
module _ (s t : Height) (x y d : ℤ) (high : IsHeight s) (high' : IsHeight t) (is : IsLevel s x) (is' : IsLevel t y) where
  pub takes_by_level : (h : HeightMotion) → TakesHeight d s t h ↔ TakesLevel d x y h
  takes_by_level h = (
    λ (k, e). (neg_ℤ k, mul_left_cancel_pos (s.den *ℤ t.den) _ _ (one-le-mul s.den t.den high high') (forth h.sign s.num s.den h.shift t.num t.den x y UNIT d k is is' e)),
    λ (k, e). (neg_ℤ k, mul_left_cancel_pos (pos 2) _ _ (omega (arith, ints)) (back h.sign s.num s.den h.shift t.num t.den x y UNIT d k is is' e)),
  )
    where
      forth : (e p q t p' q' x y n d k : ℤ) → q *ℤ x ≡ pos 2 *ℤ p *ℤ n → q' *ℤ y ≡ pos 2 *ℤ p' *ℤ n
          → (e *ℤ p *ℤ n +ℤ q *ℤ (t +ℤ k *ℤ d)) *ℤ q' ≡ p' *ℤ (n *ℤ q)
          → q *ℤ q' *ℤ (e *ℤ x +ℤ pos 2 *ℤ t -ℤ y) ≡ q *ℤ q' *ℤ (pos 2 *ℤ d *ℤ neg_ℤ k)
      forth e p q t p' q' x y n d k f g h =
          let v = var in
          linear (e ∷ p ∷ q ∷ t ∷ p' ∷ q' ∷ x ∷ y ∷ n ∷ d ∷ k ∷ [])
          (v 2 ⊗ v 5 ⊗ (v 0 ⊗ v 6 ⊕ num (pos 2) ⊗ v 3 ⊝ v 7)) (v 2 ⊗ v 5 ⊗ (num (pos 2) ⊗ v 9 ⊗ neg (v 10)))
          (given (v 0 ⊗ v 5) (v 2 ⊗ v 6) (num (pos 2) ⊗ v 1 ⊗ v 8)
          ∷ given (neg (v 2)) (v 5 ⊗ v 7) (num (pos 2) ⊗ v 4 ⊗ v 8)
          ∷ given (num (pos 2)) ((v 0 ⊗ v 1 ⊗ v 8 ⊕ v 2 ⊗ (v 3 ⊕ v 10 ⊗ v 9)) ⊗ v 5) (v 4 ⊗ (v 8 ⊗ v 2)) ∷ [])
          tt (f, (g, (h, tt)))

      back : (e p q t p' q' x y n d k : ℤ) → q *ℤ x ≡ pos 2 *ℤ p *ℤ n → q' *ℤ y ≡ pos 2 *ℤ p' *ℤ n
          → e *ℤ x +ℤ pos 2 *ℤ t -ℤ y ≡ pos 2 *ℤ d *ℤ k
          → pos 2 *ℤ ((e *ℤ p *ℤ n +ℤ q *ℤ (t +ℤ neg_ℤ k *ℤ d)) *ℤ q') ≡ pos 2 *ℤ (p' *ℤ (n *ℤ q))
      back e p q t p' q' x y n d k f g h =
          let v = var in
          linear (e ∷ p ∷ q ∷ t ∷ p' ∷ q' ∷ x ∷ y ∷ n ∷ d ∷ k ∷ [])
          (num (pos 2) ⊗ ((v 0 ⊗ v 1 ⊗ v 8 ⊕ v 2 ⊗ (v 3 ⊕ neg (v 10) ⊗ v 9)) ⊗ v 5)) (num (pos 2) ⊗ (v 4 ⊗ (v 8 ⊗ v 2)))
          (given (neg (v 0 ⊗ v 5)) (v 2 ⊗ v 6) (num (pos 2) ⊗ v 1 ⊗ v 8)
          ∷ given (v 2) (v 5 ⊗ v 7) (num (pos 2) ⊗ v 4 ⊗ v 8)
          ∷ given (v 2 ⊗ v 5) (v 0 ⊗ v 6 ⊕ num (pos 2) ⊗ v 3 ⊝ v 7) (num (pos 2) ⊗ v 9 ⊗ v 10) ∷ [])
          tt (f, (g, (h, tt)))

-- ---- what the code computes

module _ (turned shift level period : ℤ) (turned_small : IsWithin largest_level turned) (shift_small : IsWithin largest_period shift)
    (level_small : IsWithin largest_level level) (period_small : IsWithin largest_period period) where
  abbrev pub numbers : List ℤ
  numbers = turned ∷ shift ∷ level ∷ period ∷ []

  within : AllWithinBounds sizes numbers
  within = (turned_small, (shift_small, (level_small, (period_small, tt))))

  pub doubled_fits : FitsSigned w64 (coded numbers (num (pos 2) ⊗ var 1))
  doubled_fits = code_fits sizes numbers (num (pos 2) ⊗ var 1) tt within

  pub moved_fits : FitsSigned w64 (coded numbers (var 0 ⊕ num (pos 2) ⊗ var 1))
  moved_fits = code_fits sizes numbers (var 0 ⊕ num (pos 2) ⊗ var 1) tt within

  pub sum_fits : FitsSigned w64 (coded numbers sum)
  sum_fits = code_fits sizes numbers sum tt within

  pub twice_fits : FitsSigned w64 (coded numbers twice)
  twice_fits = code_fits sizes numbers twice tt within

  pub twice_positive : pos 1 ≤ℤ period → pos 1 ≤ℤ again (coded numbers twice)
  twice_positive h = let P : ℤ → Type 0 = λ z. pos 1 ≤ℤ z in subst P (sym (code_is sizes numbers twice tt within)) (omega (arith, ints))

  pub takes_is : (b : Bool) (e x : ℤ) → turned ≡ e *ℤ x → (IsTrue b ↔ ((k : ℤ) × (again (coded numbers sum) ≡ again (coded numbers twice) *ℤ k)))
      → IsTrue b ↔ ((k : ℤ) × (e *ℤ x +ℤ pos 2 *ℤ shift -ℤ level ≡ pos 2 *ℤ period *ℤ k))
  takes_is b e x is h =
      let left : again (coded numbers sum) ≡ e *ℤ x +ℤ pos 2 *ℤ shift -ℤ level =
      code_is sizes numbers sum tt within ∙ ap (λ z. z +ℤ pos 2 *ℤ shift -ℤ level) is in
      let right : again (coded numbers twice) ≡ pos 2 *ℤ period = code_is sizes numbers twice tt within in (
        λ t. let (k, f) = h.0 t in (k, sym left ∙ f ∙ ap (λ z. z *ℤ k) right),
        λ (k, f). h.1 (k, left ∙ f ∙ ap (λ z. z *ℤ k) (sym right)),
      )
