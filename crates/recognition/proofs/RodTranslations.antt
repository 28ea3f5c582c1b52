-- Translations along an axis that agree up to whole multiples of it.
use Rattle.std.proofs.Common.{◌≡◌, ℤ, pos, ◌+ℤ◌, ◌-ℤ◌, ◌*ℤ◌, ◌≤ℤ◌, [], ◌∷◌}
use Rattle.integers.proofs.Order.{mul_left_cancel_pos, one-le-mul}
use Rattle.integers.proofs.Solver.{Expr.{var, neg, ◌⊕◌, ◌⊝◌, ◌⊗◌}, linear, given}

-- t/d is s/c up to a whole number, and p/e is q/c up to a whole number; then t/d - n p/e - w/g is whole exactly where
-- s/c - n q/c - w/g is. Any three tell the fourth
module _ (c g d e n s t p q w : ℤ) (c_positive : pos 1 ≤ℤ c) where
  abbrev pub First : Type 0
  First = (k : ℤ) × (t *ℤ c -ℤ s *ℤ d ≡ k *ℤ (d *ℤ c))

  abbrev pub Second : Type 0
  Second = (k : ℤ) × (p *ℤ c -ℤ q *ℤ e ≡ k *ℤ (e *ℤ c))

  abbrev pub Rest : Type 0
  Rest = (k : ℤ) × (g *ℤ (s -ℤ n *ℤ q) -ℤ c *ℤ w ≡ (g *ℤ c) *ℤ k)

  abbrev pub Whole : Type 0
  Whole = (k : ℤ) × ((t *ℤ e -ℤ (n *ℤ p) *ℤ d) *ℤ g -ℤ w *ℤ (d *ℤ e) ≡ k *ℤ ((d *ℤ e) *ℤ g))

  -- variables: c g d e n s t p q w, and the three factors
  pub forth : First → Second → Rest → Whole
  forth (i, a) (j, b) (k, f) = (
    i +ℤ k -ℤ n *ℤ j,
    mul_left_cancel_pos c _ _ c_positive
        (linear (c ∷ g ∷ d ∷ e ∷ n ∷ s ∷ t ∷ p ∷ q ∷ w ∷ i ∷ j ∷ k ∷ [])
        (var 0 ⊗ ((var 6 ⊗ var 3 ⊝ (var 4 ⊗ var 7) ⊗ var 2) ⊗ var 1 ⊝ var 9 ⊗ (var 2 ⊗ var 3)))
        (var 0 ⊗ ((var 10 ⊕ var 12 ⊝ var 4 ⊗ var 11) ⊗ ((var 2 ⊗ var 3) ⊗ var 1)))
        (given (var 3 ⊗ var 1) (var 6 ⊗ var 0 ⊝ var 5 ⊗ var 2) (var 10 ⊗ (var 2 ⊗ var 0))
        ∷ given (neg (var 4 ⊗ var 2 ⊗ var 1)) (var 7 ⊗ var 0 ⊝ var 8 ⊗ var 3) (var 11 ⊗ (var 3 ⊗ var 0))
        ∷ given (var 2 ⊗ var 3) (var 1 ⊗ (var 5 ⊝ var 4 ⊗ var 8) ⊝ var 0 ⊗ var 9) ((var 1 ⊗ var 0) ⊗ var 12) ∷ [])
        tt (a, (b, (f, tt)))),
  )

  pub back : pos 1 ≤ℤ d → pos 1 ≤ℤ e → First → Second → Whole → Rest
  back hd he (i, a) (j, b) (l, f) = (
    l -ℤ i +ℤ n *ℤ j,
    mul_left_cancel_pos (d *ℤ e) _ _ (one-le-mul d e hd he)
        (linear (c ∷ g ∷ d ∷ e ∷ n ∷ s ∷ t ∷ p ∷ q ∷ w ∷ i ∷ j ∷ l ∷ [])
        ((var 2 ⊗ var 3) ⊗ (var 1 ⊗ (var 5 ⊝ var 4 ⊗ var 8) ⊝ var 0 ⊗ var 9))
        ((var 2 ⊗ var 3) ⊗ ((var 1 ⊗ var 0) ⊗ (var 12 ⊝ var 10 ⊕ var 4 ⊗ var 11)))
        (given (neg (var 3 ⊗ var 1)) (var 6 ⊗ var 0 ⊝ var 5 ⊗ var 2) (var 10 ⊗ (var 2 ⊗ var 0))
        ∷ given (var 4 ⊗ var 2 ⊗ var 1) (var 7 ⊗ var 0 ⊝ var 8 ⊗ var 3) (var 11 ⊗ (var 3 ⊗ var 0))
        ∷ given (var 0) ((var 6 ⊗ var 3 ⊝ (var 4 ⊗ var 7) ⊗ var 2) ⊗ var 1 ⊝ var 9 ⊗ (var 2 ⊗ var 3)) (var 12 ⊗ ((var 2 ⊗ var 3) ⊗ var 1)) ∷ [])
        tt (a, (b, (f, tt)))),
  )

  pub first : pos 1 ≤ℤ e → pos 1 ≤ℤ g → Second → Rest → Whole → First
  first he hg (j, b) (k, r) (l, f) = (
    l -ℤ k +ℤ n *ℤ j,
    mul_left_cancel_pos (e *ℤ g) _ _ (one-le-mul e g he hg)
        (linear (c ∷ g ∷ d ∷ e ∷ n ∷ s ∷ t ∷ p ∷ q ∷ w ∷ k ∷ j ∷ l ∷ [])
        ((var 3 ⊗ var 1) ⊗ (var 6 ⊗ var 0 ⊝ var 5 ⊗ var 2))
        ((var 3 ⊗ var 1) ⊗ ((var 12 ⊝ var 10 ⊕ var 4 ⊗ var 11) ⊗ (var 2 ⊗ var 0)))
        (given (var 4 ⊗ var 2 ⊗ var 1) (var 7 ⊗ var 0 ⊝ var 8 ⊗ var 3) (var 11 ⊗ (var 3 ⊗ var 0))
        ∷ given (neg (var 2 ⊗ var 3)) (var 1 ⊗ (var 5 ⊝ var 4 ⊗ var 8) ⊝ var 0 ⊗ var 9) ((var 1 ⊗ var 0) ⊗ var 10)
        ∷ given (var 0) ((var 6 ⊗ var 3 ⊝ (var 4 ⊗ var 7) ⊗ var 2) ⊗ var 1 ⊝ var 9 ⊗ (var 2 ⊗ var 3)) (var 12 ⊗ ((var 2 ⊗ var 3) ⊗ var 1)) ∷ [])
        tt (b, (r, (f, tt)))),
  )
