-- Heights and their levels, as numbers.
use Rattle.std.proofs.Common.{◌≡◌, ℤ, pos, negsuc, ◌+ℤ◌, ◌-ℤ◌, ◌*ℤ◌, ◌≤ℤ◌, ◌<ℤ◌, [], ◌∷◌, ◌⊎◌, inl, inr, ◌∙◌, ap, arith, sym}
use Rattle.std.proofs.lemmas.Int.{ints, by_lt_z}
use Rattle.std.specs.Int.{int_div_euclid, int_rem_euclid}
use Rattle.integers.proofs.Division.{floor}
use Rattle.integers.proofs.Order.{mul-le-mul_right, one-le-mul, small_multiple}
use Rattle.integers.proofs.Ring.{mul_zero}
use Rattle.integers.proofs.Remainders.{rem_euclid-div_euclid}
use Rattle.integers.proofs.Solver.{Expr.{var, num, ◌⊕◌, ◌⊝◌, ◌⊗◌}, given, linear, ring}
use Rattle.symmetry.proofs.HeightsInPeriod.{less_by_factor}

-- a product with a positive number is not negative only where the other is not
pub from_product : (p u : ℤ) → pos 1 ≤ℤ u → pos 0 ≤ℤ (p *ℤ u) → pos 0 ≤ℤ p
from_product p u h from =
    by_lt_z p (pos 0) (λ below. let le = mul-le-mul_right p (negsuc 0) u (omega (arith, ints)) (omega (arith, ints)) in absurd (omega (arith, ints))) (λ le. le)

-- p/q is half of t parts, of which u are one
module _ (u p q t : ℤ) (hu : pos 1 ≤ℤ u) (hq : pos 1 ≤ℤ q) (level : q *ℤ t ≡ pos 2 *ℤ p *ℤ u) where
  pub height_from : pos 0 ≤ℤ t → pos 0 ≤ℤ p
  height_from from =
      let product = mul-le-mul_right (pos 0) t q (omega (arith, ints)) from in
      let twice = ring (p ∷ u ∷ []) (num (pos 2) ⊗ var 0 ⊗ var 1) (num (pos 2) ⊗ (var 0 ⊗ var 1)) tt in
      from_product p u hu (omega (arith, ints))

  pub height_below : (d : ℤ) → t <ℤ (pos 2 *ℤ d) → (p *ℤ u) <ℤ (d *ℤ q)
  height_below d below =
      let product = mul-le-mul_right (t +ℤ pos 1) (pos 2 *ℤ d) q (omega (arith, ints)) (omega (arith, ints)) in
      let left = ring (t ∷ q ∷ []) ((var 0 ⊕ num (pos 1)) ⊗ var 1) (var 1 ⊗ var 0 ⊕ var 1) tt in
      let right = ring (d ∷ q ∷ []) (num (pos 2) ⊗ var 0 ⊗ var 1) (num (pos 2) ⊗ (var 0 ⊗ var 1)) tt in
      let twice = ring (p ∷ u ∷ []) (num (pos 2) ⊗ var 0 ⊗ var 1) (num (pos 2) ⊗ (var 0 ⊗ var 1)) tt in
      omega (arith, ints)

  -- a lower level is a lower height
  pub height_lower : (p' q' t' : ℤ) → pos 1 ≤ℤ q' → q' *ℤ t' ≡ pos 2 *ℤ p' *ℤ u → t <ℤ t' → (p *ℤ q') <ℤ (p' *ℤ q)
  height_lower p' q' t' hq' level' lower =
      by_lt_z (p *ℤ q') (p' *ℤ q) (λ l. l)
      (λ le.
      let both = one-le-mul q q' hq hq' in
      let product = mul-le-mul_right (t +ℤ pos 1) t' (q *ℤ q') (omega (arith, ints)) (omega (arith, ints)) in
      let apart = ring (t ∷ q ∷ q' ∷ []) ((var 0 ⊕ num (pos 1)) ⊗ (var 1 ⊗ var 2)) (var 2 ⊗ (var 1 ⊗ var 0) ⊕ var 1 ⊗ var 2) tt in
      let there = ring (t' ∷ q ∷ q' ∷ []) (var 0 ⊗ (var 1 ⊗ var 2)) (var 1 ⊗ (var 2 ⊗ var 0)) tt in
      let below = mul-le-mul_right (p' *ℤ q) (p *ℤ q') (pos 2 *ℤ u) (omega (arith, ints)) le in
      let one = linear (u ∷ p ∷ q ∷ t ∷ q' ∷ []) (var 4 ⊗ (var 2 ⊗ var 3)) (var 1 ⊗ var 4 ⊗ (num (pos 2) ⊗ var 0))
      (given (var 4) (var 2 ⊗ var 3) (num (pos 2) ⊗ var 1 ⊗ var 0) ∷ []) tt (level, tt) in
      let other = linear (u ∷ p' ∷ q' ∷ t' ∷ q ∷ []) (var 4 ⊗ (var 2 ⊗ var 3)) (var 1 ⊗ var 4 ⊗ (num (pos 2) ⊗ var 0))
      (given (var 4) (var 2 ⊗ var 3) (num (pos 2) ⊗ var 1 ⊗ var 0) ∷ []) tt (level', tt) in
      absurd (omega (arith, ints)))

  -- the level of a height within the period is within two
  pub level_from : pos 0 ≤ℤ p → pos 0 ≤ℤ t
  level_from from =
      let product = mul-le-mul_right (pos 0) p u (omega (arith, ints)) from in
      let twice = ring (p ∷ u ∷ []) (num (pos 2) ⊗ var 0 ⊗ var 1) (num (pos 2) ⊗ (var 0 ⊗ var 1)) tt in
      let flip = ring (q ∷ t ∷ []) (var 0 ⊗ var 1) (var 1 ⊗ var 0) tt in
      from_product t q hq (omega (arith, ints))

  pub level_below : (d : ℤ) → (p *ℤ u) <ℤ (d *ℤ q) → t <ℤ (pos 2 *ℤ d)
  level_below d below =
      by_lt_z t (pos 2 *ℤ d) (λ l. l)
      (λ le.
      let product = mul-le-mul_right (pos 2 *ℤ d) t q (omega (arith, ints)) le in
      let twice = ring (p ∷ u ∷ []) (num (pos 2) ⊗ var 0 ⊗ var 1) (num (pos 2) ⊗ (var 0 ⊗ var 1)) tt in
      let right = ring (d ∷ q ∷ []) (num (pos 2) ⊗ var 0 ⊗ var 1) (num (pos 2) ⊗ (var 0 ⊗ var 1)) tt in
      let flip = ring (q ∷ t ∷ []) (var 0 ⊗ var 1) (var 1 ⊗ var 0) tt in
      absurd (omega (arith, ints)))

  -- a lower height has a lower level
  pub level_lower : (p' q' t' : ℤ) → pos 1 ≤ℤ q' → q' *ℤ t' ≡ pos 2 *ℤ p' *ℤ u → (p *ℤ q') <ℤ (p' *ℤ q) → t <ℤ t'
  level_lower p' q' t' hq' level' lower =
      let below = mul-le-mul_right (p *ℤ q' +ℤ pos 1) (p' *ℤ q) (pos 2 *ℤ u) (omega (arith, ints)) (omega (arith, ints)) in
      let apart = ring (p ∷ q' ∷ u ∷ []) ((var 0 ⊗ var 1 ⊕ num (pos 1)) ⊗ (num (pos 2) ⊗ var 2)) (var 0 ⊗ var 1 ⊗ (num (pos 2) ⊗ var 2) ⊕ num (pos 2) ⊗ var 2) tt in
      let one = linear (u ∷ p ∷ q ∷ t ∷ q' ∷ []) (var 3 ⊗ (var 2 ⊗ var 4)) (var 1 ⊗ var 4 ⊗ (num (pos 2) ⊗ var 0))
      (given (var 4) (var 2 ⊗ var 3) (num (pos 2) ⊗ var 1 ⊗ var 0) ∷ []) tt (level, tt) in
      let other = linear (u ∷ p' ∷ q' ∷ t' ∷ q ∷ []) (var 3 ⊗ (var 4 ⊗ var 2)) (var 1 ⊗ var 4 ⊗ (num (pos 2) ⊗ var 0))
      (given (var 4) (var 2 ⊗ var 3) (num (pos 2) ⊗ var 1 ⊗ var 0) ∷ []) tt (level', tt) in
      less_by_factor (q *ℤ q') t t' (one-le-mul q q' hq hq') (omega (arith, ints))

-- whether q divides x
pub divides_or_not : (x q : ℤ) → pos 1 ≤ℤ q → ((t : ℤ) → ¬ (q *ℤ t ≡ x)) ⊎ ((t : ℤ) × (q *ℤ t ≡ x))
divides_or_not x q h =
    let (k, from, below) = floor x q h in
    by_lt_z (pos 0) (x -ℤ q *ℤ k)
    (λ rest. inl (λ t e. let none = small_multiple q (t -ℤ k) (omega (arith, ints, apart q t k)) (omega (arith, ints, apart q t k)) in
    absurd (omega (arith, ints, same q t k none))))
    (λ none. inr (k, omega (arith, ints)))
  where
    apart : (q t k : ℤ) → q *ℤ (t -ℤ k) ≡ q *ℤ t -ℤ q *ℤ k
    apart q t k = ring (q ∷ t ∷ k ∷ []) (var 0 ⊗ (var 1 ⊝ var 2)) (var 0 ⊗ var 1 ⊝ var 0 ⊗ var 2) tt

    same : (q t k : ℤ) → t -ℤ k ≡ pos 0 → q *ℤ t ≡ q *ℤ k
    same q t k e = let is : t ≡ k = omega (arith, ints) in ap (λ z. q *ℤ z) is

-- two numbers from 0 to below e, whole multiples of e apart, are equal
pub one_rest : (e t t' k k' x : ℤ) → pos 0 ≤ℤ t → t <ℤ e → pos 0 ≤ℤ t' → t' <ℤ e → t +ℤ e *ℤ k ≡ x → t' +ℤ e *ℤ k' ≡ x → t ≡ t'
one_rest e t t' k k' x from below from' below' is is' =
    let apart = ring (e ∷ k ∷ k' ∷ []) (var 0 ⊗ (var 1 ⊝ var 2)) (var 0 ⊗ var 1 ⊝ var 0 ⊗ var 2) tt in
    let none = small_multiple e (k -ℤ k') (omega (arith, ints)) (omega (arith, ints)) in
    let zero : e *ℤ (k -ℤ k') ≡ pos 0 = ap (λ z. e *ℤ z) none ∙ mul_zero e in
    omega (arith, ints)

-- a level by its quotient and remainder over two periods
pub level_by_periods : (z' e' z d t k : ℤ) → z' ≡ z → e' ≡ pos 2 *ℤ d → pos 1 ≤ℤ d → t ≡ int_rem_euclid z' e' → k ≡ int_div_euclid z' e'
    → z ≡ t +ℤ pos 2 *ℤ k *ℤ d
level_by_periods z' e' z d t k of_z of_e h t_is k_is =
    rem_euclid-div_euclid z (pos 2 *ℤ d) (omega (arith, ints))
    ∙ (λ i. sym (t_is ∙ (λ j. int_rem_euclid (of_z j) (of_e j))) i +ℤ sym (k_is ∙ (λ j. int_div_euclid (of_z j) (of_e j))) i *ℤ (pos 2 *ℤ d))
    ∙ ring (t ∷ k ∷ d ∷ []) (var 0 ⊕ var 1 ⊗ (num (pos 2) ⊗ var 2)) (var 0 ⊕ num (pos 2) ⊗ var 1 ⊗ var 2) tt
