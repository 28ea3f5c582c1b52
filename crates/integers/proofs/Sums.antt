-- Sums of integers over the naturals below a bound.
use native.Mathlib.Decide.{ℕ_discrete}
use Rattle.std.proofs.Common.{◌≡◌, ℕ, zero, suc, ◌<◌, ℤ, pos, ◌+ℤ◌, ◌*ℤ◌, refl, sym, ◌∙◌, ap, arith}
use Rattle.std.proofs.lemmas.Int.{ints}
use Rattle.integers.proofs.Ring.{mul_add, mul_zero, zero_mul}

-- f 0 + f 1 + .. + f (n - 1)
unfoldable pub sum_below : (ℕ → ℤ) → ℕ → ℤ
sum_below f zero = pos 0
sum_below f (suc n) = f zero +ℤ sum_below (λ k. f (suc k)) n

pub sum_below-same : (f g : ℕ → ℤ) (n : ℕ) → ((k : ℕ) → k < n → f k ≡ g k) → sum_below f n ≡ sum_below g n
unfolding sum_below
sum_below-same f g zero h = refl
sum_below-same f g (suc n) h =
    let first = h zero (omega arith) in
    let rest = sum_below-same (λ k. f (suc k)) (λ k. g (suc k)) n (λ k l. h (suc k) (omega arith)) in
    λ i. first i +ℤ rest i

pub sum_below-zero : (n : ℕ) → sum_below (λ k. pos 0) n ≡ pos 0
unfolding sum_below
sum_below-zero zero = refl
sum_below-zero (suc n) = ap (λ x. pos 0 +ℤ x) (sum_below-zero n)

pub sum_below-add : (f g : ℕ → ℤ) (n : ℕ) → sum_below (λ k. f k +ℤ g k) n ≡ sum_below f n +ℤ sum_below g n
unfolding sum_below
sum_below-add f g zero = refl
sum_below-add f g (suc n) =
    let rest = sum_below-add (λ k. f (suc k)) (λ k. g (suc k)) n in
    ap (λ x. f zero +ℤ g zero +ℤ x) rest ∙ four (f zero) (g zero) (sum_below (λ k. f (suc k)) n) (sum_below (λ k. g (suc k)) n)
  where
    four : (a b c d : ℤ) → a +ℤ b +ℤ (c +ℤ d) ≡ a +ℤ c +ℤ (b +ℤ d)
    four a b c d = omega (arith, ints)

pub sum_below-mul : (c : ℤ) (f : ℕ → ℤ) (n : ℕ) → sum_below (λ k. c *ℤ f k) n ≡ c *ℤ sum_below f n
unfolding sum_below
sum_below-mul c f zero = sym (mul_zero c)
sum_below-mul c f (suc n) =
    ap (λ x. c *ℤ f zero +ℤ x) (sum_below-mul c (λ k. f (suc k)) n) ∙ sym (mul_add c (f zero) (sum_below (λ k. f (suc k)) n))

-- the order of two sums does not matter
pub sum_below-swap : (f : ℕ → ℕ → ℤ) (m n : ℕ)
    → sum_below (λ k. sum_below (λ l. f k l) n) m ≡ sum_below (λ l. sum_below (λ k. f k l) m) n
unfolding sum_below
sum_below-swap f zero n = sym (sum_below-zero n)
sum_below-swap f (suc m) n =
    ap (λ x. sum_below (λ l. f zero l) n +ℤ x) (sum_below-swap (λ k. f (suc k)) m n)
    ∙ sym (sum_below-add (λ l. f zero l) (λ l. sum_below (λ k. f (suc k) l) m) n)

-- 1 where two naturals are equal, else 0
hit : ℕ → ℕ → ℤ
hit zero zero = pos 1
hit zero (suc j) = pos 0
hit (suc i) zero = pos 0
hit (suc i) (suc j) = hit i j

hit-same : (i : ℕ) → hit i i ≡ pos 1
unfolding hit
hit-same zero = refl
hit-same (suc i) = hit-same i

hit-other : (i j : ℕ) → ¬ (i ≡ j) → hit i j ≡ pos 0
unfolding hit
hit-other zero zero n = absurd (n refl)
hit-other zero (suc j) n = refl
hit-other (suc i) zero n = refl
hit-other (suc i) (suc j) n = hit-other i j (λ e. n (ap suc e))

-- the term that is hit is the sum
sum_below-hit : (f : ℕ → ℤ) (n j : ℕ) → j < n → sum_below (λ l. hit l j *ℤ f l) n ≡ f j
unfolding sum_below hit
sum_below-hit f zero j h = absurd (omega arith)
sum_below-hit f (suc n) zero h =
    ap (λ x. pos 1 *ℤ f zero +ℤ x)
    (sum_below-same (λ k. pos 0 *ℤ f (suc k)) (λ k. pos 0) n (λ k l. zero_mul (f (suc k))) ∙ sum_below-zero n) ∙ once (f zero)
  where
    once : (a : ℤ) → pos 1 *ℤ a +ℤ pos 0 ≡ a
    once a = omega (arith, ints)
sum_below-hit f (suc n) (suc j) h =
    ap (λ x. pos 0 *ℤ f zero +ℤ x) (sum_below-hit (λ k. f (suc k)) n j (omega arith)) ∙ past (f zero) (f (suc j))
  where
    past : (a b : ℤ) → pos 0 *ℤ a +ℤ b ≡ b
    past a b = omega (arith, ints)

-- the terms in another order have the same sum
pub sum_below-reordered : (f : ℕ → ℤ) (to from : ℕ → ℕ) (n : ℕ)
    → ((k : ℕ) → k < n → to k < n) → ((k : ℕ) → k < n → from k < n)
    → ((k : ℕ) → k < n → from (to k) ≡ k) → ((k : ℕ) → k < n → to (from k) ≡ k)
    → sum_below (λ k. f (to k)) n ≡ sum_below f n
sum_below-reordered f to from n inside outside there back =
    sum_below-same (λ k. f (to k)) (λ k. sum_below (λ l. hit l (to k) *ℤ f l) n) n (λ k h. sym (sum_below-hit f n (to k) (inside k h)))
    ∙ sum_below-swap (λ k l. hit l (to k) *ℤ f l) n n
    ∙ sum_below-same (λ l. sum_below (λ k. hit l (to k) *ℤ f l) n) f n
    (λ l h.
    sum_below-same (λ k. hit l (to k) *ℤ f l) (λ k. hit k (from l) *ℤ f l) n (λ k h'. ap (λ x. x *ℤ f l) (turned l k h h'))
    ∙ sum_below-hit (λ k. f l) n (from l) (outside l h))
  where
    turned : (l k : ℕ) → l < n → k < n → hit l (to k) ≡ hit k (from l)
    turned l k h h' =
        elim (ℕ_discrete l (to k)) [
          | yes e ↦ ap (hit l) (sym e) ∙ hit-same l ∙ sym (ap (hit k) (ap from e ∙ there k h') ∙ hit-same k)
          | no e ↦ hit-other l (to k) e ∙ sym (hit-other k (from l) (λ q. e (sym (ap to q ∙ back l h))))
        ]
