-- Division by the greatest common divisor gives the lowest terms, and there is one such fraction.
use Rattle.std.proofs.Common.{◌≡◌, ℕ, zero, suc, ◌*◌, ◌/◌, ◌%◌, ◌<◌, ◌≤◌, inl, inr, refl, sym, ap, subst, ◌∙◌, [], ◌∷◌, ℤ, pos, negsuc, ◌+ℤ◌, ◌*ℤ◌, ◌≤ℤ◌, neg_ℤ, nat_abs, arith}
use Rattle.std.specs.Prelude.{int_div, int_rem}
use Rattle.std.specs.Int.{◌∣◌, IsGcd}
use Rattle.std.proofs.lemmas.Int.{ints, quot-rem}
use Rattle.std.proofs.lemmas.Nat.Gcd.{dvd_antisymm, mod-eq-zero_of_dvd}
use Rattle.std.proofs.Math.Nat.{div-le_self, dvd-mul_left, dvd-mul_right, mul-dvd-mul_right, dvd_of_mul-dvd-mul_right, eq-one_of_dvd-one, eq-zero_of_zero-dvd}
use Rattle.integers.specs.Size.{Divides}
use Rattle.integers.proofs.Ring.{abs-mul, add_zero, zero_mul, mul_neg, mul-eq-zero, mul_right_cancel, abs-neg}
use Rattle.integers.proofs.Solver.{Expr.{var, num as literal, neg, ◌⊕◌, ◌⊗◌}, linear, given, ring}
use Rattle.integers.proofs.Divisors.{combine}
use Rattle.integers.proofs.Order.{one-le-mul, one-le-mul_three}
use Rattle.fractions.specs.Fraction.{Fraction, IsFraction, SameFraction, IsInLowestTerms}
use Rattle.fractions.specs.LowestTerms.{gcd, signed_gcd, lowest_terms, IsLowestForm, IsNoLarger}
use Rattle.fractions.proofs.Gcd.{IsGcd-gcd}

-- ---- the divisor

-- its size is the greatest common divisor, also where it has a sign
pub abs-signed_gcd : (num den : ℤ) → nat_abs (signed_gcd num den) ≡ gcd (nat_abs num) (nat_abs den)
unfolding signed_gcd
abs-signed_gcd num (pos den) = refl
abs-signed_gcd num (negsuc den) = abs-neg (gcd (nat_abs num) (suc den))

pub positive_size : (z : ℤ) → ¬ (z ≡ pos 0) → 0 < nat_abs z
positive_size (pos zero) n = absurd (n refl)
positive_size (pos (suc k)) n = omega arith
positive_size (negsuc k) n = omega arith

-- a divisor divides exactly: nothing is left
exact_quotient : (a d : ℤ) → nat_abs d ∣ nat_abs a → int_div a d *ℤ d ≡ a
exact_quotient a d h =
    let left : int_rem a d ≡ pos 0 = nothing_left a d (mod-eq-zero_of_dvd (nat_abs d) h) in
    sym (add_zero (int_div a d *ℤ d)) ∙ ap (λ r. int_div a d *ℤ d +ℤ r) (sym left) ∙ quot-rem a d
  where
    nothing_left : (a d : ℤ) → nat_abs a % nat_abs d ≡ 0 → int_rem a d ≡ pos 0
    nothing_left (pos a) d e = ap pos e
    nothing_left (negsuc a) d e = ap (λ r. neg_ℤ (pos r)) e

-- both quotients times the divisor are the two numbers again
record AreQuotients (num den d : ℤ) (q : Fraction) : Type 0 where
  num_is : q.num *ℤ d ≡ num
  den_is : q.den *ℤ d ≡ den

quotients : (num den : ℤ) → AreQuotients num den (signed_gcd num den) (lowest_terms num den)
unfolding lowest_terms
quotients num den =
    let size = abs-signed_gcd num den in
    let divides = IsGcd-gcd (nat_abs num) (nat_abs den) in
    record {
      num_is = exact_quotient num (signed_gcd num den) (subst (λ (k : ℕ). k ∣ nat_abs num) (sym size) divides.0);
      den_is = exact_quotient den (signed_gcd num den) (subst (λ (k : ℕ). k ∣ nat_abs den) (sym size) divides.1);
    }

-- ---- the fraction

same_number : (num den d : ℤ) (q : Fraction) → AreQuotients num den d q → SameFraction q (record { num = num; den = den })
same_number num den d q h =
    linear (q.num ∷ q.den ∷ num ∷ den ∷ d ∷ []) (var 0 ⊗ var 3) (var 2 ⊗ var 1)
    (given (var 1) (var 0 ⊗ var 4) (var 2) ∷ given (neg (var 0)) (var 1 ⊗ var 4) (var 3) ∷ []) tt (h.num_is, (h.den_is, tt))

-- a number divided by one of its sign is positive
positive_quotient : (m num den : ℤ) → ¬ (den ≡ pos 0) → m *ℤ signed_gcd num den ≡ den → pos 1 ≤ℤ m
unfolding signed_gcd
positive_quotient (pos (suc m)) num den n e = omega (arith, ints)
positive_quotient (pos zero) num den n e = absurd (n (sym e ∙ zero_mul (signed_gcd num den)))
positive_quotient (negsuc m) num (pos zero) n e = absurd (n refl)
positive_quotient (negsuc m) num (pos (suc k)) n e = absurd (omega (arith, ints))
positive_quotient (negsuc m) num (negsuc k) n e =
    let g = pos (gcd (nat_abs num) (suc k)) in
    let f : neg_ℤ (negsuc m *ℤ g) ≡ negsuc k = sym (mul_neg (negsuc m) g) ∙ e in
    absurd (omega (arith, ints))

-- a common divisor of the quotients, times the divisor, divides the divisor
only_one : (a b g p q d : ℕ) → IsGcd a b g → 0 < g → p * g ≡ a → q * g ≡ b → d ∣ p → d ∣ q → d ≡ 1
only_one a b g p q d greatest above e f in_p in_q =
    let in_a : d * g ∣ a = subst (λ (k : ℕ). d * g ∣ k) e (mul-dvd-mul_right d in_p g) in
    let in_b : d * g ∣ b = subst (λ (k : ℕ). d * g ∣ k) f (mul-dvd-mul_right d in_q g) in
    let one_g : 1 * g ≡ g = omega arith in
    let in_g : d * g ∣ 1 * g = subst (λ (k : ℕ). d * g ∣ k) (sym one_g) (greatest.2 (d * g) in_a in_b) in
    eq-one_of_dvd-one (dvd_of_mul-dvd-mul_right d above in_g)

-- the greatest common divisor with a number that is not 0 is above 0
pub positive_gcd : (a b g : ℕ) → IsGcd a b g → 0 < b → 0 < g
positive_gcd a b zero h n = let e = eq-zero_of_zero-dvd h.1 in absurd (omega arith)
positive_gcd a b (suc g) h n = omega arith

size_of_product : (a b c : ℤ) (g : ℕ) → a *ℤ b ≡ c → nat_abs b ≡ g → nat_abs a * g ≡ nat_abs c
size_of_product a b c g e size = ap (λ k. nat_abs a * k) (sym size) ∙ sym (abs-mul a b) ∙ ap nat_abs e

pub IsLowestForm-lowest_terms : (num den : ℤ) → ¬ (den ≡ pos 0) → IsLowestForm (lowest_terms num den) num den
IsLowestForm-lowest_terms num den n =
    let q = lowest_terms num den in
    let d = signed_gcd num den in
    let g = gcd (nat_abs num) (nat_abs den) in
    let h = quotients num den in
    let greatest = IsGcd-gcd (nat_abs num) (nat_abs den) in
    let size = abs-signed_gcd num den in
    record {
      positive = positive_quotient q.den num den n h.den_is;
      lowest = λ k in_num in_den. only_one (nat_abs num) (nat_abs den) g (nat_abs q.num) (nat_abs q.den) k greatest
          (positive_gcd (nat_abs num) (nat_abs den) g greatest (positive_size den n))
          (size_of_product q.num d num g h.num_is size) (size_of_product q.den d den g h.den_is size) in_num in_den;
      same = same_number num den d q h;
    }

-- a quotient is no larger than the number
pub abs-int_div-le : (a d : ℤ) → nat_abs (int_div a d) ≤ nat_abs a
abs-int_div-le (pos a) (pos d) = div-le_self a d
abs-int_div-le (pos a) (negsuc d) = let le = div-le_self a (suc d) in omega (arith, abs-neg (a / suc d))
abs-int_div-le (negsuc a) (pos d) = let le = div-le_self (suc a) d in omega (arith, abs-neg (suc a / d))
abs-int_div-le (negsuc a) (negsuc d) = div-le_self (suc a) (suc d)

pub IsNoLarger-lowest_terms : (num den : ℤ) → IsNoLarger (lowest_terms num den) num den
unfolding lowest_terms
IsNoLarger-lowest_terms num den =
    record { num_size = abs-int_div-le num (signed_gcd num den); den_size = abs-int_div-le den (signed_gcd num den) }

-- ---- no other

Divides-abs : (g : ℕ) (z : ℤ) → Divides g z → g ∣ nat_abs z
Divides-abs g z d =
    subst (λ (k : ℕ). g ∣ k) (sym (ap nat_abs d.is ∙ abs-mul d.times (pos g))) (dvd-mul_left g (nat_abs d.times))

-- of two equal fractions in lowest terms, the one denominator divides the other
divides_den : (q r : Fraction) → IsInLowestTerms q → SameFraction q r → nat_abs q.den ∣ nat_abs r.den
divides_den q r lowest same =
    let c = combine q.num q.den in
    let k = r.num *ℤ c.u +ℤ r.den *ℤ c.v in
    let one : pos c.gcd ≡ pos 1 = ap pos (lowest c.gcd (Divides-abs c.gcd q.num c.first) (Divides-abs c.gcd q.den c.second)) in
    let e : r.den ≡ q.den *ℤ k =
    linear (q.num ∷ q.den ∷ r.num ∷ r.den ∷ c.u ∷ c.v ∷ []) (var 3) (var 1 ⊗ (var 2 ⊗ var 4 ⊕ var 3 ⊗ var 5))
    (given (neg (var 3)) (var 0 ⊗ var 4 ⊕ var 1 ⊗ var 5) (literal (pos 1)) ∷ given (var 4) (var 0 ⊗ var 3) (var 2 ⊗ var 1) ∷ [])
    tt (c.is ∙ one, (same, tt)) in
    subst (λ (n : ℕ). nat_abs q.den ∣ n) (sym (ap nat_abs e ∙ abs-mul q.den k)) (dvd-mul_right (nat_abs q.den) (nat_abs k))

same_positive : (m n : ℤ) → pos 1 ≤ℤ m → pos 1 ≤ℤ n → nat_abs m ≡ nat_abs n → m ≡ n
same_positive m n h i e = omega (arith, ints)

pub one_lowest : (q r : Fraction) → IsFraction q → IsFraction r → IsInLowestTerms q → IsInLowestTerms r → SameFraction q r → q ≡ r
one_lowest q r h i lowest_q lowest_r same =
    let dens : q.den ≡ r.den = same_positive q.den r.den h i (dvd_antisymm (divides_den q r lowest_q same) (divides_den r q lowest_r (sym same))) in
    let not_zero : ¬ (r.den ≡ pos 0) = λ e. omega (arith, ints) in
    let nums : q.num ≡ r.num = mul_right_cancel q.num r.num r.den not_zero (same ∙ ap (λ k. r.num *ℤ k) dens) in
    λ i. record { num = nums i; den = dens i }

-- ---- one number

-- two fractions in lowest terms that are the same as a third, whose denominator is not 0
pub same_lowest : (q r : Fraction) (num den num' den' : ℤ) → ¬ (den ≡ pos 0) → ¬ (den' ≡ pos 0) → num *ℤ den' ≡ num' *ℤ den
    → IsLowestForm q num den → IsLowestForm r num' den' → q ≡ r
same_lowest q r num den num' den' n n' e h k =
    one_lowest q r h.positive k.positive h.lowest k.lowest
    (mul_right_cancel (q.num *ℤ r.den) (r.num *ℤ q.den) (den *ℤ den') (λ z. elim (mul-eq-zero den den' z) [ inl none ↦ n none | inr none ↦ n' none ]) (same_times q.num q.den r.num r.den num den num' den' e h.same k.same))
  where
    same_times : (a b c d num den num' den' : ℤ) → num *ℤ den' ≡ num' *ℤ den → a *ℤ den ≡ num *ℤ b → c *ℤ den' ≡ num' *ℤ d
        → a *ℤ d *ℤ (den *ℤ den') ≡ c *ℤ b *ℤ (den *ℤ den')
    same_times a b c d num den num' den' e f g =
        linear (a ∷ b ∷ c ∷ d ∷ num ∷ den ∷ num' ∷ den' ∷ [])
        (var 0 ⊗ var 3 ⊗ (var 5 ⊗ var 7)) (var 2 ⊗ var 1 ⊗ (var 5 ⊗ var 7))
        (given (var 1 ⊗ var 3) (var 4 ⊗ var 7) (var 6 ⊗ var 5) ∷ given (var 3 ⊗ var 7) (var 0 ⊗ var 5) (var 4 ⊗ var 1)
        ∷ given (neg (var 1 ⊗ var 5)) (var 2 ⊗ var 7) (var 6 ⊗ var 3) ∷ [])
        tt (e, (f, (g, tt)))

pub lowest_terms-same : (num den num' den' : ℤ) → ¬ (den ≡ pos 0) → ¬ (den' ≡ pos 0) → num *ℤ den' ≡ num' *ℤ den → lowest_terms num den ≡ lowest_terms num' den'
lowest_terms-same num den num' den' n n' e =
    same_lowest (lowest_terms num den) (lowest_terms num' den') num den num' den' n n' e (IsLowestForm-lowest_terms num den n) (IsLowestForm-lowest_terms num' den' n')

pub lowest_terms-only : (q : Fraction) (num den : ℤ) → ¬ (den ≡ pos 0) → IsLowestForm q num den → q ≡ lowest_terms num den
lowest_terms-only q num den n h = same_lowest q (lowest_terms num den) num den num den n n refl h (IsLowestForm-lowest_terms num den n)

-- a factor u that a sum of two fractions has above and below is left out
pub lowest_terms-without : (m u n den d t v : ℤ) → pos 1 ≤ℤ m → pos 1 ≤ℤ u → pos 1 ≤ℤ den → pos 1 ≤ℤ d
    → lowest_terms (m *ℤ (n *ℤ t) +ℤ den *ℤ d *ℤ v) (den *ℤ d *ℤ m) ≡ lowest_terms (m *ℤ (n *ℤ u *ℤ t) +ℤ den *ℤ d *ℤ u *ℤ v) (den *ℤ d *ℤ u *ℤ m)
lowest_terms-without m u n den d t v hm hu h k =
    lowest_terms-same _ _ _ _ (not_zero _ (one-le-mul_three den d m h k hm)) (not_zero _ (one-le-mul_three (den *ℤ d) u m (one-le-mul den d h k) hu hm))
    (ring (m ∷ u ∷ n ∷ den ∷ d ∷ t ∷ v ∷ [])
    ((var 0 ⊗ (var 2 ⊗ var 5) ⊕ var 3 ⊗ var 4 ⊗ var 6) ⊗ (var 3 ⊗ var 4 ⊗ var 1 ⊗ var 0))
    ((var 0 ⊗ (var 2 ⊗ var 1 ⊗ var 5) ⊕ var 3 ⊗ var 4 ⊗ var 1 ⊗ var 6) ⊗ (var 3 ⊗ var 4 ⊗ var 0)) tt)
  where
    not_zero : (x : ℤ) → pos 1 ≤ℤ x → ¬ (x ≡ pos 0)
    not_zero x h = omega (arith, ints)

-- where q x is 2 p u, p over q is x over 2 u
pub same_half : (p q x u : ℤ) → q *ℤ x ≡ pos 2 *ℤ p *ℤ u → p *ℤ (pos 2 *ℤ u) ≡ x *ℤ q
same_half p q x u e =
    linear (p ∷ q ∷ x ∷ u ∷ []) (var 0 ⊗ (literal (pos 2) ⊗ var 3)) (var 2 ⊗ var 1)
    (given (literal (negsuc 0)) (var 1 ⊗ var 2) (literal (pos 2) ⊗ var 0 ⊗ var 3) ∷ []) tt (e, tt)
