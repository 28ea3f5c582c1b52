-- sums of whole rationals, over common denominators
use Rattle.std.proofs.Common.{◌≡◌, ℕ, zero, suc, ◌*◌, ℤ, pos, negsuc, ◌+ℤ◌, ◌-ℤ◌, ◌*ℤ◌, ◌≤ℤ◌, inl, inr, refl, sym, ◌∙◌, ap, arith}
use Rattle.std.proofs.lemmas.Int.{ints}
use lib.IntN.{nat_abs}
use Rattle.symmetry.specs.HeightMotions.{IsSign}
use Rattle.motions.specs.Rationals.{IsMultiple}
use Rattle.integers.proofs.Spread.{spread}
use Rattle.integers.proofs.Order.{mul_left_cancel_pos, one-le-mul}

-- a product that is 0 has a factor 0
pub zero_factor : (a b : ℤ) → pos 1 ≤ℤ a → a *ℤ b ≡ pos 0 → b ≡ pos 0
zero_factor (pos zero) b h e = absurd (omega (arith, ints))
zero_factor (pos (suc n)) (pos zero) h e = refl
zero_factor (pos (suc n)) (pos (suc m)) h e = absurd (omega (arith, ap nat_abs e))
zero_factor (pos (suc n)) (negsuc m) h e = absurd (omega (arith, ints, e))
zero_factor (negsuc n) b h e = absurd (omega (arith, ints))

one_factor : (a b : ℕ) → a * b ≡ 1 → a ≡ 1
one_factor zero b e = absurd (omega arith)
one_factor (suc zero) b e = refl
one_factor (suc (suc n)) zero e = absurd (omega arith)
one_factor (suc (suc n)) (suc m) e = absurd (omega arith)

-- a divisor of 1 is 1 or -1
pub unit_factor : (a b : ℤ) → a *ℤ b ≡ pos 1 → IsSign a
unit_factor (pos a) (pos b) e = inl (ap pos (one_factor a b (ap nat_abs e)))
unit_factor (pos zero) (negsuc b) e = absurd (omega (arith, ints))
unit_factor (pos (suc a)) (negsuc b) e = absurd (omega (arith, ints))
unit_factor (negsuc a) (pos b) e = absurd (omega (arith, ints))
unit_factor (negsuc a) (negsuc b) e = inr (ap negsuc (omega (arith, one_factor (suc a) (suc b) (ap nat_abs e))))

-- t over d is s over c, up to a whole number; p over d' is q over c, up to a whole number;
-- then t/d - p/d' - w/(g c) is whole where s/c - q/c - w/(g c) is
module _ (g c d d' s t p q w : ℤ) (c_positive : pos 1 ≤ℤ c) where
  abbrev pub rest : ℤ
  rest = g *ℤ (s -ℤ q) -ℤ w

  abbrev pub whole_rest : ℤ
  whole_rest = (t *ℤ d' -ℤ p *ℤ d) *ℤ (g *ℤ c) -ℤ w *ℤ (d *ℤ d')

  sum : c *ℤ whole_rest ≡ (t *ℤ c -ℤ s *ℤ d) *ℤ (g *ℤ c *ℤ d') +ℤ rest *ℤ (c *ℤ d *ℤ d') -ℤ (p *ℤ c -ℤ q *ℤ d') *ℤ (g *ℤ c *ℤ d)
  sum = simp spread (omega (arith, ints))

  pub forth : IsMultiple (d *ℤ c) (t *ℤ c -ℤ s *ℤ d) → IsMultiple (g *ℤ c) rest → IsMultiple (d' *ℤ c) (p *ℤ c -ℤ q *ℤ d')
      → IsMultiple ((d *ℤ d') *ℤ (g *ℤ c)) whole_rest
  forth (i, a) (j, b) (k, e) = (
    i +ℤ j -ℤ k,
    mul_left_cancel_pos c whole_rest (((d *ℤ d') *ℤ (g *ℤ c)) *ℤ (i +ℤ j -ℤ k)) c_positive
        (sum ∙ (λ z. a z *ℤ (g *ℤ c *ℤ d') +ℤ b z *ℤ (c *ℤ d *ℤ d') -ℤ e z *ℤ (g *ℤ c *ℤ d)) ∙ combined c d d' g i j k),
  )
    where
      combined : (c d d' g i j k : ℤ)
          → (d *ℤ c) *ℤ i *ℤ (g *ℤ c *ℤ d') +ℤ (g *ℤ c) *ℤ j *ℤ (c *ℤ d *ℤ d') -ℤ (d' *ℤ c) *ℤ k *ℤ (g *ℤ c *ℤ d)
          ≡ c *ℤ (((d *ℤ d') *ℤ (g *ℤ c)) *ℤ (i +ℤ j -ℤ k))
      combined c d d' g i j k = simp spread (omega (arith, ints))

  pub back : pos 1 ≤ℤ d → pos 1 ≤ℤ d' → IsMultiple (d *ℤ c) (t *ℤ c -ℤ s *ℤ d) → IsMultiple (d' *ℤ c) (p *ℤ c -ℤ q *ℤ d')
      → IsMultiple ((d *ℤ d') *ℤ (g *ℤ c)) whole_rest → IsMultiple (g *ℤ c) rest
  back hd hd' (i, a) (k, e) (l, f) = (
    l -ℤ i +ℤ k,
    mul_left_cancel_pos (c *ℤ d *ℤ d') rest ((g *ℤ c) *ℤ (l -ℤ i +ℤ k)) (one-le-mul (c *ℤ d) d' (one-le-mul c d c_positive hd) hd')
        (solved c d d' g rest (t *ℤ c -ℤ s *ℤ d) (p *ℤ c -ℤ q *ℤ d') whole_rest i k l sum a e f),
  )
    where
      solved : (c d d' g r x y z i k l : ℤ) → c *ℤ z ≡ x *ℤ (g *ℤ c *ℤ d') +ℤ r *ℤ (c *ℤ d *ℤ d') -ℤ y *ℤ (g *ℤ c *ℤ d)
          → x ≡ (d *ℤ c) *ℤ i → y ≡ (d' *ℤ c) *ℤ k → z ≡ ((d *ℤ d') *ℤ (g *ℤ c)) *ℤ l
          → (c *ℤ d *ℤ d') *ℤ r ≡ (c *ℤ d *ℤ d') *ℤ ((g *ℤ c) *ℤ (l -ℤ i +ℤ k))
      solved c d d' g r x y z i k l e a b f =
          let h : c *ℤ (((d *ℤ d') *ℤ (g *ℤ c)) *ℤ l) ≡ ((d *ℤ c) *ℤ i) *ℤ (g *ℤ c *ℤ d') +ℤ r *ℤ (c *ℤ d *ℤ d') -ℤ ((d' *ℤ c) *ℤ k) *ℤ (g *ℤ c *ℤ d) =
          ap (λ n. c *ℤ n) (sym f) ∙ e ∙ (λ n. a n *ℤ (g *ℤ c *ℤ d') +ℤ r *ℤ (c *ℤ d *ℤ d') -ℤ b n *ℤ (g *ℤ c *ℤ d)) in
          simp spread (omega (arith, ints, simp spread at h))

  -- and where t/d - p/d' - w/(g c) is whole, t over d is s over c
  pub first : pos 1 ≤ℤ g → pos 1 ≤ℤ d' → IsMultiple (g *ℤ c) rest → IsMultiple (d' *ℤ c) (p *ℤ c -ℤ q *ℤ d')
      → IsMultiple ((d *ℤ d') *ℤ (g *ℤ c)) whole_rest → IsMultiple (d *ℤ c) (t *ℤ c -ℤ s *ℤ d)
  first hg hd' (j, b) (k, e) (l, f) = (
    l -ℤ j +ℤ k,
    mul_left_cancel_pos (g *ℤ c *ℤ d') (t *ℤ c -ℤ s *ℤ d) ((d *ℤ c) *ℤ (l -ℤ j +ℤ k)) (one-le-mul (g *ℤ c) d' (one-le-mul g c hg c_positive) hd')
        (solved c d d' g rest (t *ℤ c -ℤ s *ℤ d) (p *ℤ c -ℤ q *ℤ d') whole_rest j k l sum b e f),
  )
    where
      solved : (c d d' g r x y z j k l : ℤ) → c *ℤ z ≡ x *ℤ (g *ℤ c *ℤ d') +ℤ r *ℤ (c *ℤ d *ℤ d') -ℤ y *ℤ (g *ℤ c *ℤ d)
          → r ≡ (g *ℤ c) *ℤ j → y ≡ (d' *ℤ c) *ℤ k → z ≡ ((d *ℤ d') *ℤ (g *ℤ c)) *ℤ l
          → (g *ℤ c *ℤ d') *ℤ x ≡ (g *ℤ c *ℤ d') *ℤ ((d *ℤ c) *ℤ (l -ℤ j +ℤ k))
      solved c d d' g r x y z j k l e a b f =
          let h : c *ℤ (((d *ℤ d') *ℤ (g *ℤ c)) *ℤ l) ≡ x *ℤ (g *ℤ c *ℤ d') +ℤ ((g *ℤ c) *ℤ j) *ℤ (c *ℤ d *ℤ d') -ℤ ((d' *ℤ c) *ℤ k) *ℤ (g *ℤ c *ℤ d) =
          ap (λ n. c *ℤ n) (sym f) ∙ e ∙ (λ n. x *ℤ (g *ℤ c *ℤ d') +ℤ a n *ℤ (c *ℤ d *ℤ d') -ℤ b n *ℤ (g *ℤ c *ℤ d)) in
          simp spread (omega (arith, ints, simp spread at h))
