-- How large quotients and factors are.
use Rattle.std.proofs.Common.{◌≡◌, ℕ, zero, suc, ◌+◌, ◌*◌, ◌≤◌, ◌<◌, ℤ, pos, ◌+ℤ◌, ◌*ℤ◌, ◌≤ℤ◌, ◌<ℤ◌, nat_abs, refl, sym, subst, ◌∙◌, arith, Bool, true, false, cond, negsuc, lit≤}
use Rattle.std.proofs.Math.Nat.{le_of_mul-le-mul_left}
use Rattle.std.proofs.lemmas.Int.{ints}
use lib.IntN.{*ℤ_comm}
use Rattle.integers.specs.Size.{IsWithin}
use Rattle.integers.proofs.Ring.{IsWithin-add, IsWithin-mul, abs-mul, abs-zero}

-- 1 and -1
pub unit_within : (b : Bool) → IsWithin 1 (cond b (pos 1) (negsuc 0))
unit_within true = record { most = lit≤ tt }
unit_within false = record { most = lit≤ tt }

-- a natural number is within each that is not less
pub pos_within : (n x : ℕ) (z : ℤ) → x ≤ n → z ≡ pos x → IsWithin n z
pos_within n x z h e = record { most = omega (arith, ints) }

-- numbers from 0 to below d
pub below_within : (d x : ℤ) → pos 0 ≤ℤ x → x <ℤ d → IsWithin (nat_abs d) x
below_within d x h k = record { most = omega (arith, ints) }

-- a factor is no larger than a product with a number other than 0
pub factor_within : (n : ℕ) (k y : ℤ) → ¬ (k ≡ pos 0) → IsWithin n (k *ℤ y) → IsWithin n y
factor_within n k y some h = record { most = go (nat_abs k) (nat_abs y) (λ e. some (abs-zero k e)) (subst (λ (x : ℕ). x ≤ n) (abs-mul k y) h.most) }
  where
    go : (a b : ℕ) → ¬ (a ≡ 0) → a * b ≤ n → b ≤ n
    go zero b none h = absurd (none refl)
    go (suc a) b none h = omega arith

-- nor is a number that a number other than 0 is multiplied by
pub multiplier_within : (n : ℕ) (t c x : ℤ) → ¬ (c ≡ pos 0) → t *ℤ c ≡ x → IsWithin n x → IsWithin n t
multiplier_within n t c x some e small = factor_within n c t some (subst (IsWithin n) (sym e ∙ *ℤ_comm t c) small)

-- a factor is d times smaller than a product with d
pub times_within : (d x : ℤ) (n : ℕ) → pos 1 ≤ℤ d → IsWithin (nat_abs d * n) (d *ℤ x) → IsWithin n x
times_within d x n h k =
    let least : 0 < nat_abs d = omega (arith, ints) in
    record { most = le_of_mul-le-mul_left {k = nat_abs d} (subst (λ (s : ℕ). s ≤ nat_abs d * n) (abs-mul d x) k.most) least }

-- a combination x a + y b + z t that is d times e, where x and y are within d and z is within k times d
pub combined_within : (d x y z a b t e : ℤ) (n k : ℕ) → pos 1 ≤ℤ d → x *ℤ a +ℤ y *ℤ b +ℤ z *ℤ t ≡ d *ℤ e
    → IsWithin (nat_abs d) x → IsWithin (nat_abs d) y → IsWithin (nat_abs d * k) z
    → IsWithin n a → IsWithin n b → IsWithin n t → IsWithin (n + n + k * n) e
combined_within d x y z a b t e n k h is hx hy hz ha hb ht =
    times_within d e (n + n + k * n) h
    (subst (λ (m : ℕ). IsWithin m (d *ℤ e)) (gathered (nat_abs d) n k)
    (subst (IsWithin (nat_abs d * n + nat_abs d * n + nat_abs d * k * n)) is
    (IsWithin-add (IsWithin-add (IsWithin-mul hx ha) (IsWithin-mul hy hb)) (IsWithin-mul hz ht))))
  where
    gathered : (d n k : ℕ) → d * n + d * n + d * k * n ≡ d * (n + n + k * n)
    gathered d n k = omega arith
