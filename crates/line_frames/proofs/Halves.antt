-- Numbers of which one is half of another, as the mean of tau and its mirror image asks.
use Rattle.std.proofs.Common.{◌≡◌, ◌⊎◌, inl, inr, ℕ, ◌<◌, ℤ, pos, negsuc, ◌+ℤ◌, ◌*ℤ◌, [], ◌∷◌, arith}
use Rattle.std.proofs.lemmas.Int.{ints}
use Rattle.fractions.specs.Fraction.{Fraction, SameFraction}
use Rattle.fractions.specs.declared.part.TheConstants.{UNIT}
use Rattle.integers.proofs.Ring.{mul-eq-zero, mul_left_cancel}
use Rattle.integers.proofs.Solver.{Expr.{var, num, ◌⊕◌, ◌⊝◌, ◌⊗◌}, linear, given}
use Rattle.symmetry.specs.HeightMotions.{IsSign}

-- one entry of W (k tau + z a) is that of s (k tau + z a)
pub factor_entry : (k s y z c t x : ℤ) → k *ℤ (s *ℤ t +ℤ y *ℤ x) +ℤ z *ℤ (c *ℤ x) ≡ s *ℤ (k *ℤ t +ℤ z *ℤ x)
    → (k *ℤ y +ℤ z *ℤ c) *ℤ x ≡ s *ℤ z *ℤ x
factor_entry k s y z c t x h =
    linear (k ∷ s ∷ y ∷ z ∷ c ∷ t ∷ x ∷ []) ((var 0 ⊗ var 2 ⊕ var 3 ⊗ var 4) ⊗ var 6) (var 1 ⊗ var 3 ⊗ var 6)
    (given (num (pos 1)) (var 0 ⊗ (var 1 ⊗ var 5 ⊕ var 2 ⊗ var 6) ⊕ var 3 ⊗ (var 4 ⊗ var 6)) (var 1 ⊗ (var 0 ⊗ var 5 ⊕ var 3 ⊗ var 6)) ∷ []) tt (h, tt)

-- where W does not leave tau as it is, it turns a over
pub doubled : (k s c y z : ℤ) → IsSign s → IsSign c → ¬ (k *ℤ y ≡ pos 0) → k *ℤ y +ℤ z *ℤ c ≡ s *ℤ z → k *ℤ (s *ℤ y) ≡ pos 2 *ℤ z
doubled k s c y z (inl p) (inl q) not h =
    absurd (not (linear (k ∷ s ∷ c ∷ y ∷ z ∷ []) (var 0 ⊗ var 3) (num (pos 0))
    (given (num (pos 1)) (var 0 ⊗ var 3 ⊕ var 4 ⊗ var 2) (var 1 ⊗ var 4) ∷ given (num (pos 0) ⊝ var 4) (var 2) (num (pos 1)) ∷ given (var 4) (var 1) (num (pos 1)) ∷ []) tt
    (h, (q, (p, tt)))))
doubled k s c y z (inl p) (inr q) not h =
    linear (k ∷ s ∷ c ∷ y ∷ z ∷ []) (var 0 ⊗ (var 1 ⊗ var 3)) (num (pos 2) ⊗ var 4)
    (given (num (pos 1)) (var 0 ⊗ var 3 ⊕ var 4 ⊗ var 2) (var 1 ⊗ var 4) ∷ given (num (pos 0) ⊝ var 4) (var 2) (num (negsuc 0)) ∷ given (var 0 ⊗ var 3 ⊕ var 4) (var 1) (num (pos 1)) ∷ []) tt
    (h, (q, (p, tt)))
doubled k s c y z (inr p) (inl q) not h =
    linear (k ∷ s ∷ c ∷ y ∷ z ∷ []) (var 0 ⊗ (var 1 ⊗ var 3)) (num (pos 2) ⊗ var 4)
    (given (num (negsuc 0)) (var 0 ⊗ var 3 ⊕ var 4 ⊗ var 2) (var 1 ⊗ var 4) ∷ given (var 4) (var 2) (num (pos 1)) ∷ given (var 0 ⊗ var 3 ⊝ var 4) (var 1) (num (negsuc 0)) ∷ []) tt
    (h, (q, (p, tt)))
doubled k s c y z (inr p) (inr q) not h =
    absurd (not (linear (k ∷ s ∷ c ∷ y ∷ z ∷ []) (var 0 ⊗ var 3) (num (pos 0))
    (given (num (pos 1)) (var 0 ⊗ var 3 ⊕ var 4 ⊗ var 2) (var 1 ⊗ var 4) ∷ given (num (pos 0) ⊝ var 4) (var 2) (num (negsuc 0)) ∷ given (var 4) (var 1) (num (negsuc 0)) ∷ []) tt
    (h, (q, (p, tt)))))

-- a product with a positive number is not 0
pub some_product : (k : ℕ) (y : ℤ) → 0 < k → ¬ (y ≡ pos 0) → ¬ (pos k *ℤ y ≡ pos 0)
some_product k y some not e = by (mul-eq-zero (pos k) y e)
  where
    by : (pos k ≡ pos 0) ⊎ (y ≡ pos 0) → ⊥
    by (inl z) = absurd (omega (arith, ints, some, z))
    by (inr z) = not z

pub half_entry : (k y z t x : ℤ) → k *ℤ y ≡ pos 2 *ℤ z → k *ℤ (t +ℤ (t +ℤ y *ℤ x)) ≡ pos 2 *ℤ (k *ℤ t +ℤ z *ℤ x)
half_entry k y z t x h =
    linear (k ∷ y ∷ z ∷ t ∷ x ∷ []) (var 0 ⊗ (var 3 ⊕ (var 3 ⊕ var 1 ⊗ var 4))) (num (pos 2) ⊗ (var 0 ⊗ var 3 ⊕ var 2 ⊗ var 4))
    (given (var 4) (var 0 ⊗ var 1) (num (pos 2) ⊗ var 2) ∷ []) tt (h, tt)

-- a fraction, where its numbers are told twice
pub half_fraction : (q : Fraction) (k : ℕ) (u w : ℤ) → pos k *ℤ u ≡ pos 2 *ℤ w → SameFraction q (record { num = u; den = pos 2 *ℤ UNIT })
    → SameFraction q (record { num = w; den = UNIT *ℤ pos k })
half_fraction q k u w half is =
    mul_left_cancel (pos 2) (q.num *ℤ (UNIT *ℤ pos k)) (w *ℤ q.den) (λ e. absurd (omega (arith, ints, e)))
    (linear (q.num ∷ q.den ∷ pos k ∷ u ∷ w ∷ []) (num (pos 2) ⊗ (var 0 ⊗ (num UNIT ⊗ var 2))) (num (pos 2) ⊗ (var 4 ⊗ var 1))
    (given (var 2) (var 0 ⊗ (num (pos 2) ⊗ num UNIT)) (var 3 ⊗ var 1) ∷ given (var 1) (var 2 ⊗ var 3) (num (pos 2) ⊗ var 4) ∷ []) tt (is, (half, tt)))
