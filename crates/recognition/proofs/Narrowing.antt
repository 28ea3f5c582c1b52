-- how a congruence narrows a class
use lib.IntN.{pos-*ℤ-pos}
use Rattle.std.proofs.Common.{◌≡◌, ℕ, zero, suc, ◌+◌, ◌-◌, ◌*◌, ◌/◌, ◌%◌, ◌<◌, ◌≤◌, ℤ, pos, ◌+ℤ◌, ◌-ℤ◌, ◌*ℤ◌, ◌⊎◌, inl, inr, refl, sym, ◌∙◌, ap, subst, arith}
use Rattle.std.specs.Prelude.{◌↔◌}
use Rattle.std.proofs.lemmas.Bool.{cases_lt}
use Rattle.std.proofs.lemmas.Int.{ints}
use Rattle.std.proofs.Math.Nat.{mul-le-mul, mul-le-mul_right}
use Rattle.std.proofs.lemmas.Bool.{cases_lt}
use Rattle.motions.specs.Rationals.{IsMultiple}
use Rattle.recognition.specs.Grid.{grid}
use Rattle.recognition.specs.Classes.{InClass, Solves, IsPeriod, IsFirstSolution, IsNextStep}
use Rattle.integers.proofs.Spread.{spread}

-- ---- sums of multiples

plus_multiple : (n x y : ℤ) → IsMultiple n x → IsMultiple n y → IsMultiple n (x +ℤ y)
plus_multiple n x y (k, e) (l, f) = (k +ℤ l, (λ i. e i +ℤ f i) ∙ grouped n k l)
  where
    grouped : (n k l : ℤ) → n *ℤ k +ℤ n *ℤ l ≡ n *ℤ (k +ℤ l)
    grouped n k l = simp spread (omega (arith, ints))

minus_multiple : (n x y : ℤ) → IsMultiple n x → IsMultiple n y → IsMultiple n (x -ℤ y)
minus_multiple n x y (k, e) (l, f) = (k -ℤ l, (λ i. e i -ℤ f i) ∙ grouped n k l)
  where
    grouped : (n k l : ℤ) → n *ℤ k -ℤ n *ℤ l ≡ n *ℤ (k -ℤ l)
    grouped n k l = simp spread (omega (arith, ints))

times_multiple : (n q x : ℤ) → IsMultiple n x → IsMultiple n (q *ℤ x)
times_multiple n q x (k, e) = (q *ℤ k, ap (λ z. q *ℤ z) e ∙ grouped n q k)
  where
    grouped : (n q k : ℤ) → q *ℤ (n *ℤ k) ≡ n *ℤ (q *ℤ k)
    grouped n q k = simp spread

same_multiple : (n x y : ℤ) → x ≡ y → IsMultiple n x → IsMultiple n y
same_multiple n x y e (k, f) = (k, sym e ∙ f)

-- ---- periods

pos_sum : (m n : ℕ) → pos (m + n) ≡ pos m +ℤ pos n
pos_sum m n = omega (arith, ints)

-- a solution and a period later is a solution
later : (c a : ℤ) (v q r : ℕ) → Solves c a v → IsPeriod a r → Solves c a (v + q * r)
later c a v q r h p =
    same_multiple (pos grid) (c +ℤ a *ℤ pos v +ℤ pos q *ℤ (a *ℤ pos r)) (c +ℤ a *ℤ pos (v + q * r))
    (grouped c a (pos v) (pos q) (pos r) ∙ ap (λ z. c +ℤ a *ℤ z) (ap (λ z. pos v +ℤ z) (pos-*ℤ-pos q r) ∙ sym (pos_sum v (q * r))))
    (plus_multiple (pos grid) (c +ℤ a *ℤ pos v) (pos q *ℤ (a *ℤ pos r)) h (times_multiple (pos grid) (pos q) (a *ℤ pos r) p))
  where
    grouped : (c a v q r : ℤ) → c +ℤ a *ℤ v +ℤ q *ℤ (a *ℤ r) ≡ c +ℤ a *ℤ (v +ℤ q *ℤ r)
    grouped c a v q r = simp spread (omega (arith, ints))

-- the difference of two solutions is a period
between : (c a : ℤ) (v t : ℕ) → Solves c a v → Solves c a (v + t) → IsPeriod a t
between c a v t h k =
    same_multiple (pos grid) ((c +ℤ a *ℤ pos (v + t)) -ℤ (c +ℤ a *ℤ pos v)) (a *ℤ pos t)
    (ap (λ z. (c +ℤ a *ℤ z) -ℤ (c +ℤ a *ℤ pos v)) (pos_sum v t) ∙ grouped c a (pos v) (pos t))
    (minus_multiple (pos grid) (c +ℤ a *ℤ pos (v + t)) (c +ℤ a *ℤ pos v) k h)
  where
    grouped : (c a v t : ℤ) → (c +ℤ a *ℤ (v +ℤ t)) -ℤ (c +ℤ a *ℤ v) ≡ a *ℤ t
    grouped c a v t = simp spread (omega (arith, ints))

-- a period less some periods is a period
shorter : (a : ℤ) (r q t : ℕ) → IsPeriod a (r + q * t) → IsPeriod a t → IsPeriod a r
shorter a r q t h p =
    same_multiple (pos grid) (a *ℤ pos (r + q * t) -ℤ pos q *ℤ (a *ℤ pos t)) (a *ℤ pos r)
    (ap (λ z. a *ℤ z -ℤ pos q *ℤ (a *ℤ pos t)) (pos_sum r (q * t) ∙ ap (λ z. pos r +ℤ z) (sym (pos-*ℤ-pos q t))) ∙ grouped a (pos r) (pos q) (pos t))
    (minus_multiple (pos grid) (a *ℤ pos (r + q * t)) (pos q *ℤ (a *ℤ pos t)) h (times_multiple (pos grid) (pos q) (a *ℤ pos t) p))
  where
    grouped : (a r q t : ℤ) → a *ℤ (r +ℤ q *ℤ t) -ℤ q *ℤ (a *ℤ t) ≡ a *ℤ r
    grouped a r q t = simp spread (omega (arith, ints))

-- ---- the next step

-- where grid is met by the cap, it is a period all the same
full_period : (a : ℤ) → IsPeriod a grid
full_period a = (a, omega (arith, ints))

split : (j m s : ℕ) → 1 ≤ m → j * s ≡ (j % m) * s + (j / m) * (m * s)
split j m s h =
    let e : j ≡ j % m + m * (j / m) = omega arith in omega (arith, ap (λ z. z * s) e)

split_past : (j m s : ℕ) → 1 ≤ m → j % m ≡ 0 → j * s ≡ (j / m) * (m * s)
split_past j m s h e = split j m s h ∙ ap (λ z. z * s + (j / m) * (m * s)) e ∙ omega arith

positive_or_zero : (n : ℕ) → (n ≡ 0) ⊎ (1 ≤ n)
positive_or_zero n = grind arith

not_zero : (m s r : ℕ) → 1 ≤ r → r ≡ m * s → 1 ≤ m
not_zero zero s r h e = absurd (omega (arith, e))
not_zero (suc m) s r h e = omega arith

less : (j m s : ℕ) → j * s < grid → grid ≤ m * s → j < m
less j m s h k = elim (cases_lt j m) [ inl e ↦ e | inr e ↦ absurd (omega (arith, mul-le-mul_right s e)) ]

-- each period below grid that is a multiple of the step is a multiple of the next step
by_next : (step : ℕ) (a : ℤ) (r : ℕ) (n : IsNextStep step a r) (j : ℕ) → j * step < grid → IsPeriod a (j * step) → (q : ℕ) × (j * step ≡ q * r)
by_next step a r n j small p =
    elim n.is [
      | inl e ↦
          let m = n.multiple in
          let one : 1 ≤ m = not_zero m step r n.from e in
          let P : ℕ → Type 0 = λ z. IsPeriod a z in
          let rest : IsPeriod a ((j % m) * step) = shorter a ((j % m) * step) (j / m) (m * step) (subst P (split j m step one) p) (subst P e n.period) in
          elim (positive_or_zero (j % m)) [
            | inl z ↦ (j / m, split_past j m step one z ∙ ap (λ t. (j / m) * t) (sym e))
            | inr h ↦ absurd (n.least (j % m) h (omega arith) rest)
          ]
      | inr (e, past) ↦
          elim (positive_or_zero j) [
            | inl z ↦ (0, ap (λ t. t * step) z ∙ omega arith)
            | inr h ↦ absurd (n.least j h (less j n.multiple step small past) p)
          ]
    ]

-- ---- the narrowed class

-- the index of a member is not below that of the first solution
from_first : (y step : ℕ) (c a : ℤ) (w : ℕ) (f : IsFirstSolution y step c a w) (k : ℕ) → Solves c a (y + k * step) → f.index ≤ k
from_first y step c a w f k h = elim (cases_lt k f.index) [ inl less ↦ absurd (f.first k less h) | inr e ↦ e ]

apart : (y k i s : ℕ) → i ≤ k → y + k * s ≡ (y + i * s) + (k - i) * s
apart y k i s h =
    let e : k ≡ i + (k - i) = omega arith in omega (arith, ap (λ z. z * s) e)

narrow_back : (y step : ℕ) (c a : ℤ) (w r v : ℕ) → IsFirstSolution y step c a w → IsNextStep step a r → InClass y step v → Solves c a v → InClass w r v
narrow_back y step c a w r v f n (small, (k, e)) h =
    let S : ℕ → Type 0 = λ z. Solves c a z in
    let i = f.index in
    let le : i ≤ k = from_first y step c a w f k (subst S e h) in
    let is : v ≡ w + (k - i) * step = e ∙ apart y k i step le ∙ ap (λ z. z + (k - i) * step) (sym f.is) in
    let p = between c a w ((k - i) * step) f.solves (subst S is h) in
    let (q, t) = by_next step a r n (k - i) (omega (arith, is)) p in
    (small, (q, is ∙ ap (λ z. w + z) t))

narrow_forth : (y step : ℕ) (c a : ℤ) (w r v : ℕ) → IsFirstSolution y step c a w → IsNextStep step a r → InClass w r v → InClass y step v × Solves c a v
narrow_forth y step c a w r v f n (small, (q, e)) =
    let S : ℕ → Type 0 = λ z. Solves c a z in (
      elim n.is [
        | inl m ↦ (small, (f.index + q * n.multiple, e ∙ (λ i. f.is i + q * m i) ∙ grouped y f.index step q n.multiple))
        | inr (m, past) ↦
            elim (positive_or_zero q) [
              | inl z ↦ (small, (f.index, e ∙ (λ i. f.is i + z i * r) ∙ omega arith))
              | inr one ↦ absurd (omega (arith, e, m, mul-le-mul_right r one))
            ]
      ],
      subst S (sym e) (later c a w q r f.solves n.period),
    )
  where
    grouped : (y i s q m : ℕ) → (y + i * s) + q * (m * s) ≡ y + (i + q * m) * s
    grouped y i s q m = omega arith

pub narrowed : (y step : ℕ) (c a : ℤ) (w r : ℕ) → IsFirstSolution y step c a w → IsNextStep step a r
    → (v : ℕ) → InClass w r v ↔ (InClass y step v × Solves c a v)
narrowed y step c a w r f n v = (narrow_forth y step c a w r v f n, λ h. narrow_back y step c a w r v f n h.0 h.1)

-- ---- what the loops find

-- past the grid no member is left
pub none_left : (y step i : ℕ) (c a : ℤ) → ((j : ℕ) → j < i → ¬ (Solves c a (y + j * step))) → grid ≤ y + i * step
    → (v : ℕ) → InClass y step v → ¬ (Solves c a v)
none_left y step i c a before past v (small, (k, e)) h =
    let S : ℕ → Type 0 = λ z. Solves c a z in
    elim (cases_lt k i) [
      | inl less ↦ before k less (subst S e h)
      | inr le ↦ absurd (omega (arith, e, mul-le-mul_right step le))
    ]

pub past_grid : (y step i : ℕ) → 1 ≤ step → grid ≤ i → grid ≤ y + i * step
past_grid y step i h k = omega (arith, mul-le-mul h k)

pub found_step : (step i : ℕ) (a : ℤ) → 1 ≤ i → 1 ≤ step → i * step < grid → IsPeriod a (i * step) → ((j : ℕ) → 1 ≤ j → j < i → ¬ (IsPeriod a (j * step)))
    → IsNextStep step a (i * step)
found_step step i a hi hs small p before = record {
  from = omega (arith, mul-le-mul hi hs);
  to = omega arith;
  multiple = i;
  is = inl refl;
  period = p;
  least = before;
}

pub full_step : (step i : ℕ) (a : ℤ) → grid ≤ i * step → ((j : ℕ) → 1 ≤ j → j < i → ¬ (IsPeriod a (j * step))) → IsNextStep step a grid
full_step step i a past before = record {
  from = omega arith;
  to = omega arith;
  multiple = i;
  is = inr (refl, past);
  period = full_period a;
  least = before;
}

pub full_end : (step i : ℕ) → 1 ≤ step → grid ≤ i → grid ≤ i * step
full_end step i h k = omega (arith, mul-le-mul k h)

-- of the positive indices below i, and of i, is of those below i + 1
pub positive_more : (P : ℕ → Type 0) (i : ℕ) → ((j : ℕ) → 1 ≤ j → j < i → P j) → P i → (j : ℕ) → 1 ≤ j → j < i + 1 → P j
positive_more P i before here j h k = elim (cases_lt j i) [ inl less ↦ before j h less | inr le ↦ let e : i ≡ j = omega arith in subst P e here ]
