-- A step of Euclid's.
use Rattle.std.proofs.Common.{◌≡◌, zero, suc, ◌+◌, ◌*◌, ◌≤◌, ℤ, pos, negsuc, ◌+ℤ◌, ◌-ℤ◌, ◌*ℤ◌, ◌≤ℤ◌, ◌<ℤ◌, nat_abs, List, [], ◌∷◌, arith, refl, ap, ◌∙◌}
use Rattle.std.specs.Int.{int_div_euclid, int_rem_euclid}
use Rattle.std.proofs.lemmas.Int.{ints}
use Rattle.integers.specs.Size.{IsWithin}
use Rattle.integers.proofs.Ring.{IsWithin-add, IsWithin-sub, IsWithin-mul}
use Rattle.integers.proofs.Solver.{Expr.{var, num, ◌⊕◌, ◌⊝◌, ◌⊗◌}, linear, given}
use Rattle.plane_lattice.proofs.Quotients.{rem_euclid_is}
use Rattle.reduction.specs.Bezout.{IsBezoutOf}
use Rattle.reduction.specs.declared.bezout.BezoutIdentity.{BezoutIdentity}

-- the sizes of what one step makes
abs_sum : (q k r : ℤ) → pos 0 ≤ℤ q → pos 0 ≤ℤ k → pos 0 ≤ℤ r → nat_abs (q *ℤ k +ℤ r) ≡ nat_abs k * nat_abs q + nat_abs r
abs_sum (pos q) (pos k) (pos r) _ _ _ = omega arith
abs_sum (negsuc q) k r h _ _ = absurd (omega (arith, ints))
abs_sum (pos q) (negsuc k) r _ h _ = absurd (omega (arith, ints))
abs_sum (pos q) (pos k) (negsuc r) _ _ h = absurd (omega (arith, ints))

within : (z : ℤ) → IsWithin (nat_abs z) z
within z = record { most = omega arith }

module _ (p q k r : ℤ) (q_from : pos 0 ≤ℤ q) (k_from : pos 0 ≤ℤ k) (r_from : pos 0 ≤ℤ r) (is : p ≡ q *ℤ k +ℤ r) (a b : ℤ) (a_small : nat_abs a ≤ nat_abs r) (b_small : nat_abs b ≤ nat_abs q) where
  product_small : IsWithin (nat_abs k * nat_abs q) (k *ℤ b)
  product_small = let h : IsWithin (nat_abs q) b = record { most = b_small } in IsWithin-mul (within k) h

  a_within : IsWithin (nat_abs r) a
  a_within = record { most = a_small }

  size : nat_abs p ≡ nat_abs k * nat_abs q + nat_abs r
  size = ap nat_abs is ∙ abs_sum q k r q_from k_from r_from

  pub step_less : nat_abs (a -ℤ k *ℤ b) ≤ nat_abs p
  step_less =
      let h = (IsWithin-sub a_within product_small).most in
      let s = size in
      omega arith

  pub step_more : nat_abs (k *ℤ b +ℤ a) ≤ nat_abs p
  step_more =
      let h = (IsWithin-add product_small a_within).most in
      let s = size in
      omega arith

-- the quotient of numbers that are not negative
pub quotient_from : (p q k r : ℤ) → pos 1 ≤ℤ p → pos 1 ≤ℤ q → r <ℤ q → p ≡ q *ℤ k +ℤ r → pos 0 ≤ℤ k
quotient_from p q (pos k) r h l b e = omega (arith, ints)
quotient_from p (pos zero) (negsuc k) r h l b e = absurd (omega (arith, ints))
quotient_from p (pos (suc q)) (negsuc k) r h l b e = absurd (omega (arith, ints))
quotient_from p (negsuc q) (negsuc k) r h l b e = absurd (omega (arith, ints))

pub divided_is : (p q : ℤ) → pos 1 ≤ℤ q → p ≡ q *ℤ int_div_euclid p q +ℤ int_rem_euclid p q
divided_is p q h = let e = rem_euclid_is p q h in omega (arith, ints)

-- what one step makes is a Bézout identity
pub step_bezout : (p q k r : ℤ) (m : BezoutIdentity) → p ≡ q *ℤ k +ℤ r → IsBezoutOf q r m
    → IsBezoutOf p q (record { divisor = m.divisor; x = m.y; y = m.x -ℤ k *ℤ m.y; p = k *ℤ m.p +ℤ m.q; q = m.p })
step_bezout p q k r m e h =
    let v = var in
    let env : List ℤ = p ∷ q ∷ k ∷ r ∷ m.divisor ∷ m.x ∷ m.y ∷ m.p ∷ m.q ∷ [] in
    record {
      first = linear env (v 0) ((v 2 ⊗ v 7 ⊕ v 8) ⊗ v 4)
          (given (num (pos 1)) (v 0) (v 1 ⊗ v 2 ⊕ v 3) ∷ given (v 2) (v 1) (v 7 ⊗ v 4) ∷ given (num (pos 1)) (v 3) (v 8 ⊗ v 4) ∷ []) tt (e, (h.first, (h.second, tt)));
      second = h.first;
      unit = linear env ((v 2 ⊗ v 7 ⊕ v 8) ⊗ v 6 ⊕ v 7 ⊗ (v 5 ⊝ v 2 ⊗ v 6)) (num (pos 1)) (given (num (pos 1)) (v 7 ⊗ v 5 ⊕ v 8 ⊗ v 6) (num (pos 1)) ∷ []) tt (h.unit, tt);
      from = h.from;
    }

-- the last step
pub last_bezout : (p q k : ℤ) → p ≡ q *ℤ k +ℤ pos 0 → pos 1 ≤ℤ q → IsBezoutOf p q (record { divisor = q; x = pos 0; y = pos 1; p = k; q = pos 1 })
last_bezout p q k e h = record { first = omega (arith, ints); second = omega (arith, ints); unit = omega (arith, ints); from = omega (arith, ints) }

-- signs
pub turned_first : (p q : ℤ) (m : BezoutIdentity) → IsBezoutOf (pos 0 -ℤ p) q m → IsBezoutOf p q (record { divisor = m.divisor; x = pos 0 -ℤ m.x; y = m.y; p = pos 0 -ℤ m.p; q = m.q })
turned_first p q m h =
    let v = var in
    let env : List ℤ = p ∷ m.divisor ∷ m.x ∷ m.y ∷ m.p ∷ m.q ∷ [] in
    record {
      first = linear env (v 0) ((num (pos 0) ⊝ v 4) ⊗ v 1) (given (num (negsuc 0)) (num (pos 0) ⊝ v 0) (v 4 ⊗ v 1) ∷ []) tt (h.first, tt);
      second = h.second;
      unit = linear env ((num (pos 0) ⊝ v 4) ⊗ (num (pos 0) ⊝ v 2) ⊕ v 5 ⊗ v 3) (num (pos 1)) (given (num (pos 1)) (v 4 ⊗ v 2 ⊕ v 5 ⊗ v 3) (num (pos 1)) ∷ []) tt (h.unit, tt);
      from = h.from;
    }

pub turned_second : (p q : ℤ) (m : BezoutIdentity) → IsBezoutOf p (pos 0 -ℤ q) m → IsBezoutOf p q (record { divisor = m.divisor; x = m.x; y = pos 0 -ℤ m.y; p = m.p; q = pos 0 -ℤ m.q })
turned_second p q m h =
    let v = var in
    let env : List ℤ = q ∷ m.divisor ∷ m.x ∷ m.y ∷ m.p ∷ m.q ∷ [] in
    record {
      first = h.first;
      second = linear env (v 0) ((num (pos 0) ⊝ v 5) ⊗ v 1) (given (num (negsuc 0)) (num (pos 0) ⊝ v 0) (v 5 ⊗ v 1) ∷ []) tt (h.second, tt);
      unit = linear env (v 4 ⊗ v 2 ⊕ (num (pos 0) ⊝ v 5) ⊗ (num (pos 0) ⊝ v 3)) (num (pos 1)) (given (num (pos 1)) (v 4 ⊗ v 2 ⊕ v 5 ⊗ v 3) (num (pos 1)) ∷ []) tt (h.unit, tt);
      from = h.from;
    }

-- with a 0
pub bezout_with_zero_second : (p q : ℤ) → q ≡ pos 0 → pos 0 ≤ℤ p → IsBezoutOf p q (record { divisor = p; x = pos 1; y = pos 0; p = pos 1; q = pos 0 })
bezout_with_zero_second p q e h = record { first = omega (arith, ints); second = omega (arith, ints); unit = refl; from = h }

pub bezout_with_zero_first : (p q : ℤ) → p ≡ pos 0 → pos 0 ≤ℤ q → IsBezoutOf p q (record { divisor = q; x = pos 0; y = pos 1; p = pos 0; q = pos 1 })
bezout_with_zero_first p q e h = record { first = omega (arith, ints); second = omega (arith, ints); unit = refl; from = h }
