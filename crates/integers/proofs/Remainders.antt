-- Multiples of a number, and what is left of a whole number without the multiples of another in it.
use native.Mathlib.Nat.{mod-lt, div-add-mod'}
use Rattle.std.proofs.Common.{◌≡◌, ℕ, zero, suc, ◌+◌, ◌-◌, ◌*◌, ◌/◌, ◌%◌, ◌<◌, [], ◌∷◌, arith, refl, sym, ap, subst, ◌∙◌, ℤ, pos, negsuc, ◌+ℤ◌, ◌-ℤ◌, ◌*ℤ◌, ◌≤ℤ◌, ◌<ℤ◌, neg_ℤ}
use Rattle.std.proofs.Math.Nat.{mod-eq_of_lt}
use Rattle.std.specs.Int.{int_div_euclid, int_rem_euclid}
use Rattle.std.proofs.lemmas.Int.{ints}
use Rattle.integers.specs.Size.{Divides}
use Rattle.integers.proofs.Ring.{add_mul, mul_assoc}
use Rattle.integers.proofs.Solver.{Expr.{var, num, neg, ◌⊕◌, ◌⊝◌, ◌⊗◌}, linear, given}

-- a number as multiples of d and a rest below d
pub record Divided (d : ℕ) (z : ℤ) : Type 0 where
  pub times : ℤ
  pub rest : ℕ
  pub below : rest < d
  pub is : z ≡ times *ℤ pos d +ℤ pos rest
  pub rem : int_rem_euclid z (pos d) ≡ pos rest

below_multiples : (d q a : ℕ) → q * d + a % d ≡ a → a % d < d → negsuc a ≡ negsuc q *ℤ pos d +ℤ pos (d - 1 - a % d)
below_multiples d q a e h = omega (arith, ints)

pub divided : (d : ℕ) → 0 < d → (z : ℤ) → Divided d z
divided d h (pos a) = record {
  times = pos (a / d);
  rest = a % d;
  below = mod-lt a {m = d} h;
  is = ap pos (sym (div-add-mod' a d));
  rem = refl;
}
divided d h (negsuc a) = record {
  times = negsuc (a / d);
  rest = d - 1 - a % d;
  below = omega arith;
  is = below_multiples d (a / d) a (div-add-mod' a d) (mod-lt a {m = d} h);
  rem = refl;
}

-- two rests that differ by a multiple of d
one_rest : (d r s : ℕ) (k : ℤ) → r < d → s < d → pos s ≡ pos r +ℤ k *ℤ pos d → r ≡ s
one_rest d r s (pos zero) h l e = omega (arith, ints)
one_rest d r s (pos (suc n)) h l e = absurd (omega (arith, ints))
one_rest d r s (negsuc n) h l e = absurd (omega (arith, ints))

-- the rest of one number is that of another that differs by a multiple of d
pub rem-same : (d : ℕ) → 0 < d → (x y : ℤ) → Divides d (x -ℤ y) → int_rem_euclid x (pos d) ≡ int_rem_euclid y (pos d)
rem-same d h x y k =
    let p = divided d h x in
    let q = divided d h y in
    let v = var in
    let e : pos q.rest ≡ pos p.rest +ℤ (p.times -ℤ k.times -ℤ q.times) *ℤ pos d =
    linear (x ∷ y ∷ k.times ∷ p.times ∷ q.times ∷ pos p.rest ∷ pos q.rest ∷ pos d ∷ []) (v 6) (v 5 ⊕ (v 3 ⊝ v 2 ⊝ v 4) ⊗ v 7)
    (given (num (negsuc 0)) (v 0 ⊝ v 1) (v 2 ⊗ v 7) ∷ given (num (pos 1)) (v 0) (v 3 ⊗ v 7 ⊕ v 5) ∷ given (num (negsuc 0)) (v 1) (v 4 ⊗ v 7 ⊕ v 6) ∷ [])
    tt (k.is, (p.is, (q.is, tt))) in
    p.rem ∙ ap pos (one_rest d p.rest q.rest (p.times -ℤ k.times -ℤ q.times) p.below q.below e) ∙ sym q.rem

-- a number and its rest differ by a multiple of d
pub minus-rem : (d : ℕ) → 0 < d → (x : ℤ) → Divides d (x -ℤ int_rem_euclid x (pos d))
minus-rem d h x =
    let p = divided d h x in
    record {
      times = p.times;
      is = ap (λ r. x -ℤ r) p.rem
          ∙ linear (x ∷ p.times ∷ pos p.rest ∷ pos d ∷ []) (var 0 ⊝ var 2) (var 1 ⊗ var 3) (given (num (pos 1)) (var 0) (var 1 ⊗ var 3 ⊕ var 2) ∷ []) tt (p.is, tt);
    }

-- two numbers with one rest differ by a multiple of d
pub same_rem : (d : ℕ) → 0 < d → (x y : ℤ) → int_rem_euclid x (pos d) ≡ int_rem_euclid y (pos d) → Divides d (x -ℤ y)
same_rem d h x y e =
    let p = minus-rem d h x in
    let q = minus-rem d h y in
    let r = int_rem_euclid x (pos d) in
    let s = int_rem_euclid y (pos d) in
    record {
      times = p.times -ℤ q.times;
      is = linear (x ∷ y ∷ r ∷ s ∷ p.times ∷ q.times ∷ pos d ∷ []) (var 0 ⊝ var 1) ((var 4 ⊝ var 5) ⊗ var 6)
          (given (num (pos 1)) (var 0 ⊝ var 2) (var 4 ⊗ var 6) ∷ given (num (negsuc 0)) (var 1 ⊝ var 3) (var 5 ⊗ var 6) ∷ given (num (pos 1)) (var 2) (var 3) ∷ [])
          tt (p.is, (q.is, (e, tt)));
    }

-- the rest is from 0 to below d
pub zero-le-rem : (d : ℕ) → 0 < d → (x : ℤ) → pos 0 ≤ℤ int_rem_euclid x (pos d)
zero-le-rem d h x = let p = divided d h x in subst (λ z. pos 0 ≤ℤ z) (sym p.rem) (omega (arith, ints))

pub rem-below : (d : ℕ) → 0 < d → (x : ℤ) → int_rem_euclid x (pos d) <ℤ pos d
rem-below d h x = let p = divided d h x in let l = p.below in subst (λ z. z <ℤ pos d) (sym p.rem) (omega (arith, ints))

-- a number from 0 to below d is its own rest
pub rem-small : (d : ℕ) → 0 < d → (x : ℤ) → pos 0 ≤ℤ x → x <ℤ pos d → int_rem_euclid x (pos d) ≡ x
rem-small d h (pos a) low high = ap pos (mod-eq_of_lt {n = a} {m = d} (omega (arith, ints)))
rem-small d h (negsuc a) low high = absurd (omega (arith, ints))

-- the remainder from 0 to below d
pub rem_euclid_is : (z d : ℤ) → pos 1 ≤ℤ d → (pos 0 ≤ℤ int_rem_euclid z d) × (int_rem_euclid z d <ℤ d) × ((k : ℤ) × (int_rem_euclid z d ≡ z +ℤ k *ℤ d))
rem_euclid_is z (negsuc n) h = absurd (omega (arith, ints))
rem_euclid_is z (pos n) h =
    let by = divided n (omega (arith, ints)) z in
    let below = by.below in (
      subst (λ x. pos 0 ≤ℤ x) (sym by.rem) (omega (arith, ints)),
      subst (λ x. x <ℤ pos n) (sym by.rem) (omega (arith, ints)),
      (
        neg_ℤ by.times,
        by.rem ∙ linear (z ∷ by.times ∷ pos n ∷ pos by.rest ∷ []) (var 3) (var 0 ⊕ neg (var 1) ⊗ var 2)
            (given (num (negsuc 0)) (var 0) (var 1 ⊗ var 2 ⊕ var 3) ∷ []) tt (by.is, tt),
      ),
    )

-- the same of numbers that the code has read again
pub rem_between : (z' d' z d t : ℤ) → z' ≡ z → d' ≡ d → t ≡ int_rem_euclid z' d' → pos 1 ≤ℤ d
    → (pos 0 ≤ℤ t) × (t <ℤ d) × ((k : ℤ) × (t ≡ z +ℤ k *ℤ d))
rem_between z' d' z d t of_z of_d is h =
    let e : t ≡ int_rem_euclid z d = is ∙ (λ i. int_rem_euclid (of_z i) (of_d i)) in
    let P : ℤ → Type 0 = λ x. (pos 0 ≤ℤ x) × (x <ℤ d) × ((k : ℤ) × (x ≡ z +ℤ k *ℤ d)) in
    subst P (sym e) (rem_euclid_is z d h)

-- with the quotient
pub rem_euclid-div_euclid : (z e : ℤ) → pos 1 ≤ℤ e → z ≡ int_rem_euclid z e +ℤ int_div_euclid z e *ℤ e
rem_euclid-div_euclid z (negsuc n) h = absurd (omega (arith, ints))
rem_euclid-div_euclid z (pos zero) h = absurd (omega (arith, ints))
rem_euclid-div_euclid (pos a) (pos (suc b)) h = omega (arith, ints)
rem_euclid-div_euclid (negsuc a) (pos (suc b)) h = omega (arith, ints)

-- ---- multiples of d

pub Divides-zero : (d : ℕ) → Divides d (pos 0)
Divides-zero d = record { times = pos 0; is = omega (arith, ints) }

pub Divides-self : (d : ℕ) → Divides d (pos d)
Divides-self d = record { times = pos 1; is = omega (arith, ints) }

pub Divides-add : (d : ℕ) (x y : ℤ) → Divides d x → Divides d y → Divides d (x +ℤ y)
Divides-add d x y p q = record { times = p.times +ℤ q.times; is = (λ i. p.is i +ℤ q.is i) ∙ sym (add_mul p.times q.times (pos d)) }

pub Divides-multiple : (d : ℕ) (c x : ℤ) → Divides d x → Divides d (c *ℤ x)
Divides-multiple d c x p = record { times = c *ℤ p.times; is = ap (λ z. c *ℤ z) p.is ∙ sym (mul_assoc c p.times (pos d)) }
