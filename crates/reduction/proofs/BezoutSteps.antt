-- A step of Euclid's, as the code computes it.
use Rattle.std.proofs.Common.{◌≡◌, ◌≤◌, ◌<◌, ℕ, ℤ, pos, ◌≤ℤ◌, ◌<ℤ◌, ◌+ℤ◌, ◌-ℤ◌, ◌*ℤ◌, nat_abs, List, [], ◌∷◌, sym, subst, ◌∙◌, lit<, arith, FitsSigned, w64}
use Rattle.std.specs.Int.{int_div_euclid, int_rem_euclid, IsNonNegative}
use Rattle.std.proofs.lemmas.Int.{ints}
use Rattle.integers.specs.Size.{IsWithin}
use Rattle.integers.proofs.Coded.{again, again_is, code_fits, code_is, AllWithinBounds}
use Rattle.integers.proofs.Solver.{Expr, Expr.{var, num, ◌⊕◌, ◌⊝◌, ◌⊗◌}}
use Rattle.plane_lattice.proofs.Quotients.{IsWithin-div_euclid}
use Rattle.reduction.specs.Bounds.{largest_value}
use Rattle.reduction.specs.Bezout.{IsBezoutOf, IsSmallBezout}
use Rattle.reduction.specs.declared.bezout.BezoutIdentity.{BezoutIdentity}
use Rattle.reduction.proofs.BezoutLaws.{divided_is, quotient_from, step_less, step_more, step_bezout, turned_first, turned_second}

within_below : (x y : ℕ) (z : ℤ) → nat_abs z ≤ x → x ≤ y → IsWithin y z
within_below x y z h l = record { most = omega arith }

abbrev pub bounds : List ℕ
bounds = largest_value ∷ largest_value ∷ largest_value ∷ largest_value ∷ largest_value ∷ []

-- what is divided
module _ (p q k r : ℤ) (hp : IsWithin largest_value p) (hq : IsWithin largest_value q) (p_from : pos 1 ≤ℤ p) (q_from : pos 1 ≤ℤ q)
    (k_is : k ≡ int_div_euclid (again p) (again q)) (r_is : r ≡ int_rem_euclid (again p) (again q))
    (r_from : IsNonNegative r) (r_below : nat_abs r < nat_abs (again q)) where
  pub p_again : again p ≡ p
  p_again = again_is p largest_value hp (lit< tt)

  pub q_again : again q ≡ q
  q_again = again_is q largest_value hq (lit< tt)

  pub k_small : IsWithin largest_value k
  k_small =
      subst (IsWithin largest_value) (sym k_is) (subst (λ (d : ℤ). IsWithin largest_value (int_div_euclid (again p) d)) (sym q_again)
      (subst (λ (d : ℤ). IsWithin largest_value (int_div_euclid d q)) (sym p_again) (IsWithin-div_euclid largest_value p q q_from hp)))

  r_less : nat_abs r < nat_abs q
  r_less = subst (λ (z : ℤ). nat_abs r < nat_abs z) q_again r_below

  pub r_small : IsWithin largest_value r
  r_small = let l = r_less in let m = hq.most in record { most = omega arith }

  pub r_again : again r ≡ r
  r_again = again_is r largest_value r_small (lit< tt)

  pub r_zero_from : pos 0 ≤ℤ r
  r_zero_from = let h = r_from in grind (arith, ints)

  r_less_int : r <ℤ q
  r_less_int = let l = r_less in omega (arith, ints)

  pub p_sum : p ≡ q *ℤ k +ℤ r
  p_sum = divided_is p q q_from ∙ (λ i. q *ℤ (sym ((λ j. int_div_euclid (p_again j) (q_again j))) ∙ sym k_is) i +ℤ (sym (λ j. int_rem_euclid (p_again j) (q_again j)) ∙ sym r_is) i)

  pub k_from : pos 0 ≤ℤ k
  k_from = quotient_from p q k r p_from q_from r_less_int p_sum

  -- and the identity of q and r
  module _ (m : BezoutIdentity) (identity : IsBezoutOf (again q) (again r) m) (hx : nat_abs m.x ≤ nat_abs (again r)) (hy : nat_abs m.y ≤ nat_abs (again q))
      (hmp : nat_abs m.p ≤ nat_abs (again q)) (hmq : nat_abs m.q ≤ nat_abs (again r)) (hg : nat_abs m.divisor ≤ nat_abs (again r)) where
    to_q : (z : ℤ) → nat_abs z ≤ nat_abs (again q) → nat_abs z ≤ nat_abs q
    to_q z = subst (λ (w : ℤ). nat_abs z ≤ nat_abs w) q_again

    to_r : (z : ℤ) → nat_abs z ≤ nat_abs (again r) → nat_abs z ≤ nat_abs r
    to_r z = subst (λ (w : ℤ). nat_abs z ≤ nat_abs w) r_again

    abbrev pub env : List ℤ
    env = k ∷ m.x ∷ m.y ∷ m.p ∷ m.q ∷ []

    pub env_small : AllWithinBounds bounds env
    env_small = (
      k_small,
      (
        within_below _ _ m.x (to_r m.x hx) r_small.most,
        (
          within_below _ _ m.y (to_q m.y hy) hq.most,
          (
            within_below _ _ m.p (to_q m.p hmp) hq.most,
            (within_below _ _ m.q (to_r m.q hmq) r_small.most, tt),
          ),
        ),
      ),
    )

    pub g_again : again m.divisor ≡ m.divisor
    g_again = again_is m.divisor largest_value (within_below _ _ m.divisor (to_r m.divisor hg) r_small.most) (lit< tt)

    -- the four numbers
    abbrev y_code : Expr
    y_code = var 1 ⊝ var 0 ⊗ var 2

    abbrev p_code : Expr
    p_code = var 0 ⊗ var 3 ⊕ var 4

    pub fits_ky : FitsSigned w64 (again k *ℤ again m.y)
    fits_ky = code_fits bounds env (var 0 ⊗ var 2) tt env_small

    pub fits_y : FitsSigned w64 (again m.x -ℤ again (again k *ℤ again m.y))
    fits_y = code_fits bounds env y_code tt env_small

    pub fits_kp : FitsSigned w64 (again k *ℤ again m.p)
    fits_kp = code_fits bounds env (var 0 ⊗ var 3) tt env_small

    pub fits_p : FitsSigned w64 (again (again k *ℤ again m.p) +ℤ again m.q)
    fits_p = code_fits bounds env p_code tt env_small

    y_is : again (again m.x -ℤ again (again k *ℤ again m.y)) ≡ m.x -ℤ k *ℤ m.y
    y_is = code_is bounds env y_code tt env_small

    p_is : again (again (again k *ℤ again m.p) +ℤ again m.q) ≡ k *ℤ m.p +ℤ m.q
    p_is = code_is bounds env p_code tt env_small

    identity_plain : IsBezoutOf q r m
    identity_plain = subst (λ (z : ℤ). IsBezoutOf q z m) r_again (subst (λ (z : ℤ). IsBezoutOf z (again r) m) q_again identity)

    pub step_is : IsBezoutOf p q (record {
      divisor = again m.divisor;
      x = again m.y;
      y = again (again m.x -ℤ again (again k *ℤ again m.y));
      p = again (again (again k *ℤ again m.p) +ℤ again m.q);
      q = again m.p;
    })
    step_is =
        subst (IsBezoutOf p q) (λ i. record {
          divisor = sym g_again i;
          x = sym (again_is m.y largest_value env_small.1.1.0 (lit< tt)) i;
          y = sym y_is i;
          p = sym p_is i;
          q = sym (again_is m.p largest_value env_small.1.1.1.0 (lit< tt)) i;
        }) (step_bezout p q k r m p_sum identity_plain)

    pub y_small : nat_abs (again (again m.x -ℤ again (again k *ℤ again m.y))) ≤ nat_abs p
    y_small = subst (λ (z : ℤ). nat_abs z ≤ nat_abs p) (sym y_is) (step_less p q k r (omega (arith, ints)) k_from r_zero_from p_sum m.x m.y (to_r m.x hx) (to_q m.y hy))

    pub p_small : nat_abs (again (again (again k *ℤ again m.p) +ℤ again m.q)) ≤ nat_abs p
    p_small = subst (λ (z : ℤ). nat_abs z ≤ nat_abs p) (sym p_is) (step_more p q k r (omega (arith, ints)) k_from r_zero_from p_sum m.q m.p (to_r m.q hmq) (to_q m.p hmp))

-- ---- signs

pub neg_again : (x : ℤ) → IsWithin largest_value x → again (pos 0 -ℤ again x) ≡ pos 0 -ℤ x
neg_again x h = code_is (largest_value ∷ []) (x ∷ []) (num (pos 0) ⊝ var 0) tt (h, tt)

pub kept_again : (x : ℤ) → IsWithin largest_value x → again x ≡ x
kept_again x h = again_is x largest_value h (lit< tt)

pub first_turned : (p q : ℤ) (m : BezoutIdentity) → IsSmallBezout m → IsBezoutOf (pos 0 -ℤ p) q m
    → IsBezoutOf p q (record { divisor = again m.divisor; x = again (pos 0 -ℤ again m.x); y = again m.y; p = again (pos 0 -ℤ again m.p); q = again m.q })
first_turned p q m s h =
    subst (IsBezoutOf p q) (λ i. record {
      divisor = sym (kept_again m.divisor s.divisor) i;
      x = sym (neg_again m.x s.x) i;
      y = sym (kept_again m.y s.y) i;
      p = sym (neg_again m.p s.p) i;
      q = sym (kept_again m.q s.q) i;
    }) (turned_first p q m h)

pub second_turned : (p q : ℤ) (m : BezoutIdentity) → IsSmallBezout m → IsBezoutOf p (pos 0 -ℤ q) m
    → IsBezoutOf p q (record { divisor = again m.divisor; x = again m.x; y = again (pos 0 -ℤ again m.y); p = again m.p; q = again (pos 0 -ℤ again m.q) })
second_turned p q m s h =
    subst (IsBezoutOf p q) (λ i. record {
      divisor = sym (kept_again m.divisor s.divisor) i;
      x = sym (kept_again m.x s.x) i;
      y = sym (neg_again m.y s.y) i;
      p = sym (kept_again m.p s.p) i;
      q = sym (neg_again m.q s.q) i;
    }) (turned_second p q m h)

pub second_passed : (p q : ℤ) (m : BezoutIdentity) → IsWithin largest_value p → IsWithin largest_value q → IsBezoutOf (again p) (again (pos 0 -ℤ again q)) m → IsBezoutOf p (pos 0 -ℤ q) m
second_passed p q m h k identity = subst (λ (z : ℤ). IsBezoutOf z (pos 0 -ℤ q) m) (kept_again p h) (subst (λ (z : ℤ). IsBezoutOf (again p) z m) (neg_again q k) identity)

pub first_passed : (p q : ℤ) (m : BezoutIdentity) → IsWithin largest_value p → IsWithin largest_value q → IsBezoutOf (again (pos 0 -ℤ again p)) (again q) m → IsBezoutOf (pos 0 -ℤ p) q m
first_passed p q m h k identity = subst (λ (z : ℤ). IsBezoutOf (pos 0 -ℤ p) z m) (kept_again q k) (subst (λ (z : ℤ). IsBezoutOf z (again q) m) (neg_again p h) identity)
