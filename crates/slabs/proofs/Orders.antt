-- What follows from one inequality, by multiplication.
use Rattle.std.proofs.Common.{◌≡◌, ℤ, pos, negsuc, neg_ℤ, ◌+ℤ◌, ◌-ℤ◌, ◌*ℤ◌, ◌≤ℤ◌, sym, [], ◌∷◌, subst, arith}
use Rattle.std.proofs.lemmas.Int.{ints}
use Rattle.fractions.specs.Fraction.{Fraction}
use Rattle.fractions.specs.LowestTerms.{IsLowestForm}
use Rattle.integers.proofs.Order.{mul-le-mul_right, one-le-mul, small_multiple, zero-le-mul}
use Rattle.integers.proofs.Ring.{neg_mul}
use Rattle.integers.proofs.Solver.{Expr.{var, neg, ◌⊝◌, ◌⊗◌}, linear, given}
use Rattle.slabs.specs.Slabs.{IsAtMost}

-- a difference of which a positive multiple is not negative
not_negative : (f d : ℤ) → pos 1 ≤ℤ f → pos 0 ≤ℤ (f *ℤ d) → pos 0 ≤ℤ d
not_negative f (pos n) one h = omega (arith, ints)
not_negative f (negsuc n) one h =
    let less = mul-le-mul_right (negsuc n) (negsuc 0) f (omega (arith, ints)) (omega (arith, ints)) in
    absurd (omega (arith, ints))

-- the difference y - x is k/f times the difference b - a
pub follows : (f k a b x y : ℤ) → pos 1 ≤ℤ f → pos 0 ≤ℤ k → a ≤ℤ b → f *ℤ (y -ℤ x) ≡ k *ℤ (b -ℤ a) → x ≤ℤ y
follows f k a b x y one some h e =
    let least : pos 0 ≤ℤ (k *ℤ (b -ℤ a)) = zero-le-mul k (b -ℤ a) some (omega (arith, ints)) in
    let last = not_negative f (y -ℤ x) one (subst (λ z. pos 0 ≤ℤ z) (sym e) least) in
    omega (arith, ints)

-- an affine function that is bounded below on all whole numbers is constant
pub bounded_is_constant : (b z : ℤ) → ((k : ℤ) → pos 0 ≤ℤ (b +ℤ k *ℤ z)) → z ≡ pos 0
bounded_is_constant b z h =
    let back = neg_mul (b +ℤ pos 1) z in
    let below = h (neg_ℤ (b +ℤ pos 1)) in
    let above = h (b +ℤ pos 1) in
    small_multiple (b +ℤ pos 1) z (omega (arith, ints)) (omega (arith, ints))

-- the order of two fractions is that of their lowest terms
pub ordered_forms : (q s : Fraction) (a b c d : ℤ) → IsLowestForm q a b → IsLowestForm s c d → pos 1 ≤ℤ b → pos 1 ≤ℤ d
    → (a *ℤ d) ≤ℤ (c *ℤ b) → IsAtMost q s
ordered_forms q s a b c d f g hb hd h =
    follows (b *ℤ d) (q.den *ℤ s.den) (a *ℤ d) (c *ℤ b) (q.num *ℤ s.den) (s.num *ℤ q.den) (one-le-mul b d hb hd)
    (omega (arith, ints, one-le-mul q.den s.den f.positive g.positive)) h
    (linear (a ∷ b ∷ c ∷ d ∷ q.num ∷ q.den ∷ s.num ∷ s.den ∷ [])
    ((var 1 ⊗ var 3) ⊗ (var 6 ⊗ var 5 ⊝ var 4 ⊗ var 7)) ((var 5 ⊗ var 7) ⊗ (var 2 ⊗ var 1 ⊝ var 0 ⊗ var 3))
    (given (var 1 ⊗ var 5) (var 6 ⊗ var 3) (var 2 ⊗ var 7)
    ∷ given (neg (var 3 ⊗ var 7)) (var 4 ⊗ var 1) (var 0 ⊗ var 5) ∷ []) tt (g.same, (f.same, tt)))
