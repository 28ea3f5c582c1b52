-- Rational translations that agree up to whole edges, told by whole numbers of half parts.
use Rattle.std.proofs.Common.{◌≡◌, ℤ, pos, ◌+ℤ◌, ◌-ℤ◌, ◌*ℤ◌, ◌≤ℤ◌, [], ◌∷◌}
use Rattle.integers.proofs.Order.{mul_left_cancel_pos, one-le-mul}
use Rattle.integers.proofs.Solver.{Expr.{var, num, neg, ◌⊕◌, ◌⊝◌, ◌⊗◌}, linear, given}

-- p/d and q/e are translations, v/c is q/e, and the origin is moved by w/g, which is m/c
module _ (c g d e p q v w m k : ℤ) (like : q *ℤ c ≡ v *ℤ e) (moved : w *ℤ c ≡ m *ℤ g) where
  abbrev pub Whole : Type 0
  Whole = (p *ℤ e -ℤ q *ℤ d) *ℤ g -ℤ w *ℤ (d *ℤ e) ≡ k *ℤ ((d *ℤ e) *ℤ g)

  -- variables: c g d e p q v w m k
  pub to_whole : pos 1 ≤ℤ c → p *ℤ c ≡ (v +ℤ m +ℤ k *ℤ c) *ℤ d → Whole
  to_whole positive same =
      mul_left_cancel_pos c _ _ positive
      (linear (c ∷ g ∷ d ∷ e ∷ p ∷ q ∷ v ∷ w ∷ m ∷ k ∷ [])
      (var 0 ⊗ ((var 4 ⊗ var 3 ⊝ var 5 ⊗ var 2) ⊗ var 1 ⊝ var 7 ⊗ (var 2 ⊗ var 3)))
      (var 0 ⊗ (var 9 ⊗ ((var 2 ⊗ var 3) ⊗ var 1)))
      (given (var 1 ⊗ var 3) (var 4 ⊗ var 0) ((var 6 ⊕ var 8 ⊕ var 9 ⊗ var 0) ⊗ var 2)
      ∷ given (neg (var 1 ⊗ var 2)) (var 5 ⊗ var 0) (var 6 ⊗ var 3)
      ∷ given (neg (var 2 ⊗ var 3)) (var 7 ⊗ var 0) (var 8 ⊗ var 1) ∷ [])
      tt (same, (like, (moved, tt))))

  pub from_whole : pos 1 ≤ℤ e → pos 1 ≤ℤ g → Whole → p *ℤ c ≡ (v +ℤ m +ℤ k *ℤ c) *ℤ d
  from_whole above grid_above whole =
      mul_left_cancel_pos (e *ℤ g) _ _ (one-le-mul e g above grid_above)
      (linear (c ∷ g ∷ d ∷ e ∷ p ∷ q ∷ v ∷ w ∷ m ∷ k ∷ [])
      ((var 3 ⊗ var 1) ⊗ (var 4 ⊗ var 0))
      ((var 3 ⊗ var 1) ⊗ ((var 6 ⊕ var 8 ⊕ var 9 ⊗ var 0) ⊗ var 2))
      (given (var 0) ((var 4 ⊗ var 3 ⊝ var 5 ⊗ var 2) ⊗ var 1 ⊝ var 7 ⊗ (var 2 ⊗ var 3)) (var 9 ⊗ ((var 2 ⊗ var 3) ⊗ var 1))
      ∷ given (var 2 ⊗ var 1) (var 5 ⊗ var 0) (var 6 ⊗ var 3)
      ∷ given (var 2 ⊗ var 3) (var 7 ⊗ var 0) (var 8 ⊗ var 1) ∷ [])
      tt (whole, (like, (moved, tt))))

-- p/d differs from s/c by the whole number k
pub to_edges : (c d p s k : ℤ) → p *ℤ c -ℤ s *ℤ d ≡ k *ℤ (d *ℤ c) → p *ℤ c ≡ (s +ℤ k *ℤ c) *ℤ d
to_edges c d p s k e =
    linear (c ∷ d ∷ p ∷ s ∷ k ∷ []) (var 2 ⊗ var 0) ((var 3 ⊕ var 4 ⊗ var 0) ⊗ var 1)
    (given (num (pos 1)) (var 2 ⊗ var 0 ⊝ var 3 ⊗ var 1) (var 4 ⊗ (var 1 ⊗ var 0)) ∷ []) tt (e, tt)

pub from_edges : (c d p s k : ℤ) → p *ℤ c ≡ (s +ℤ k *ℤ c) *ℤ d → p *ℤ c -ℤ s *ℤ d ≡ k *ℤ (d *ℤ c)
from_edges c d p s k e =
    linear (c ∷ d ∷ p ∷ s ∷ k ∷ []) (var 2 ⊗ var 0 ⊝ var 3 ⊗ var 1) (var 4 ⊗ (var 1 ⊗ var 0))
    (given (num (pos 1)) (var 2 ⊗ var 0) ((var 3 ⊕ var 4 ⊗ var 0) ⊗ var 1) ∷ []) tt (e, tt)

-- p/d is s/c, so it is 2 s over 2 c
pub doubled : (c d p s : ℤ) → p *ℤ c ≡ s *ℤ d → p *ℤ (pos 2 *ℤ c) ≡ (pos 2 *ℤ s) *ℤ d
doubled c d p s e =
    linear (c ∷ d ∷ p ∷ s ∷ []) (var 2 ⊗ (num (pos 2) ⊗ var 0)) ((num (pos 2) ⊗ var 3) ⊗ var 1)
    (given (num (pos 2)) (var 2 ⊗ var 0) (var 3 ⊗ var 1) ∷ []) tt (e, tt)
