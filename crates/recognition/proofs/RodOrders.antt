-- the order of the matrices by their places in the list of all, and the first change from its steps
use Rattle.std.proofs.Common.{◌≡◌, ℕ, ◌+◌, ◌*◌, ◌/◌, ◌%◌, ◌<◌, ◌≤◌, ℤ, pos, ◌-ℤ◌, ◌<ℤ◌, ◌⊎◌, inl, inr, refl, sym, ◌∙◌, ap, subst, arith}
use Rattle.std.specs.Prelude.{unsigned_abs}
use Rattle.std.proofs.lemmas.Int.{ints}
use Rattle.integers.specs.Size.{IsWithin}
use Rattle.motions.specs.PlaneMatrices.{Matrix2}
use Rattle.motions.specs.Laws.PlaneMatrixLaws.{pair_path, matrix2_path}
use Rattle.motions.specs.PlaneSizes.{IsMatrix2Within}
use Rattle.recognition.specs.Order.{size_of, IsGreater, IsMatrixBefore}
use Rattle.recognition.specs.RodOrder.{Change, IsBounded, IsBefore, IsFirst}
use Rattle.recognition.specs.RodOrigins.{IsNotIn}
use Rattle.recognition.specs.RodSearch.{matrix_at, IsFirstPlace, IsOfNoPlace, IsFirstMatrix, IsOfNoMatrix}
use Rattle.integers.proofs.Order.{compare_nat}
use Rattle.recognition.proofs.MatrixOrders.{before_or_same}

-- how far an entry is below 2
abbrev digit : ℤ → ℕ
digit z = unsigned_abs (pos 2 -ℤ z)

-- the place of a matrix in the list of all bounded matrices
abbrev index_of : Matrix2 → ℕ
index_of q = 125 * digit q.first.x + 25 * digit q.first.y + 5 * digit q.second.x + digit q.second.y

digit_within : (z : ℤ) → unsigned_abs z ≤ 2 → digit z ≤ 4
digit_within z h = omega (arith, ints)

entry_by_digit : (z : ℤ) → unsigned_abs z ≤ 2 → pos 2 -ℤ pos (digit z) ≡ z
entry_by_digit z h = omega (arith, ints)

digits : (a b c d : ℕ) → a ≤ 4 → b ≤ 4 → c ≤ 4 → d ≤ 4
    → let i = 125 * a + 25 * b + 5 * c + d in (i / 125 ≡ a) × (i / 25 % 5 ≡ b) × (i / 5 % 5 ≡ c) × (i % 5 ≡ d)
digits a b c d ha hb hc hd = (omega arith, omega arith, omega arith, omega arith)

index_within : (q : Matrix2) → IsMatrix2Within 2 q → index_of q < 625
index_within q h =
    let a = digit_within q.first.x h.first.x.most in
    let b = digit_within q.first.y h.first.y.most in
    let c = digit_within q.second.x h.second.x.most in
    let d = digit_within q.second.y h.second.y.most in omega arith

at_index : (q : Matrix2) → IsMatrix2Within 2 q → matrix_at (index_of q) ≡ q
at_index q h =
    let e = digits (digit q.first.x) (digit q.first.y) (digit q.second.x) (digit q.second.y) (digit_within q.first.x h.first.x.most) (digit_within q.first.y h.first.y.most) (digit_within q.second.x h.second.x.most) (digit_within q.second.y h.second.y.most) in
    matrix2_path
    (pair_path (ap (λ n. pos 2 -ℤ pos n) e.0 ∙ entry_by_digit q.first.x h.first.x.most) (ap (λ n. pos 2 -ℤ pos n) e.1 ∙ entry_by_digit q.first.y h.first.y.most))
    (pair_path (ap (λ n. pos 2 -ℤ pos n) e.2 ∙ entry_by_digit q.second.x h.second.x.most) (ap (λ n. pos 2 -ℤ pos n) e.3 ∙ entry_by_digit q.second.y h.second.y.most))

entry_within : (n : ℕ) → n ≤ 4 → IsWithin 2 (pos 2 -ℤ pos n)
entry_within n h = record { most = omega (arith, ints) }

pub bounded_at : (i : ℕ) → i < 625 → IsMatrix2Within 2 (matrix_at i)
bounded_at i h = record {
  first = record { x = entry_within (i / 125) (omega arith); y = entry_within (i / 25 % 5) (omega arith) };
  second = record { x = entry_within (i / 5 % 5) (omega arith); y = entry_within (i % 5) (omega arith) };
}

digit_less : (z : ℤ) (n : ℕ) → unsigned_abs z ≤ 2 → (pos 2 -ℤ pos n) <ℤ z → digit z < n
digit_less z n h e = omega (arith, ints)

digit_same : (z : ℤ) (n : ℕ) → unsigned_abs z ≤ 2 → pos 2 -ℤ pos n ≡ z → digit z ≡ n
digit_same z n h e = omega (arith, ints)

places : (i : ℕ) → 125 * (i / 125) + 25 * (i / 25 % 5) + 5 * (i / 5 % 5) + i % 5 ≡ i
places i = omega arith

-- by digits
earlier : (a b c d a' b' c' d' : ℕ) → b ≤ 4 → c ≤ 4 → d ≤ 4
    → (a < a') ⊎ ((a ≡ a') × ((b < b') ⊎ ((b ≡ b') × ((c < c') ⊎ ((c ≡ c') × (d < d'))))))
    → 125 * a + 25 * b + 5 * c + d < 125 * a' + 25 * b' + 5 * c' + d'
earlier a b c d a' b' c' d' hb hc hd (inl h) = omega arith
earlier a b c d a' b' c' d' hb hc hd (inr (e, inl h)) = omega (arith, e)
earlier a b c d a' b' c' d' hb hc hd (inr (e, inr (f, inl h))) = omega (arith, e, f)
earlier a b c d a' b' c' d' hb hc hd (inr (e, inr (f, inr (g, h)))) = omega (arith, e, f, g)

digit_at : (n : ℕ) → n ≤ 4 → digit (pos 2 -ℤ pos n) ≡ n
digit_at n h = omega (arith, ints)

pub index_at : (i : ℕ) → i < 625 → index_of (matrix_at i) ≡ i
index_at i h =
    (λ k. 125 * digit_at (i / 125) (omega arith) k + 25 * digit_at (i / 25 % 5) (omega arith) k + 5 * digit_at (i / 5 % 5) (omega arith) k + digit_at (i % 5) (omega arith) k)
    ∙ places i

-- a greater matrix stands earlier in the list of all
greater_earlier : (q : Matrix2) (i : ℕ) → IsMatrix2Within 2 q → IsGreater q (matrix_at i) → index_of q < i
greater_earlier q i h g =
    let P : ℕ → Type 0 = λ n. index_of q < n in
    subst P (places i)
    (earlier (digit q.first.x) (digit q.first.y) (digit q.second.x) (digit q.second.y) (i / 125) (i / 25 % 5) (i / 5 % 5) (i % 5)
    (digit_within q.first.y h.first.y.most) (digit_within q.second.x h.second.x.most) (digit_within q.second.y h.second.y.most) (by_digits q i h g))
  where
    by_digits : (q : Matrix2) (i : ℕ) → IsMatrix2Within 2 q → IsGreater q (matrix_at i)
        → (digit q.first.x < i / 125) ⊎ ((digit q.first.x ≡ i / 125) × ((digit q.first.y < i / 25 % 5) ⊎ ((digit q.first.y ≡ i / 25 % 5) × ((digit q.second.x < i / 5 % 5) ⊎ ((digit q.second.x ≡ i / 5 % 5) × (digit q.second.y < i % 5))))))
    by_digits q i h (inl a) = inl (digit_less q.first.x (i / 125) h.first.x.most a)
    by_digits q i h (inr (a, inl b)) = inr (digit_same q.first.x (i / 125) h.first.x.most a, inl (digit_less q.first.y (i / 25 % 5) h.first.y.most b))
    by_digits q i h (inr (a, inr (b, inl c))) =
        inr (digit_same q.first.x (i / 125) h.first.x.most a, inr (digit_same q.first.y (i / 25 % 5) h.first.y.most b, inl (digit_less q.second.x (i / 5 % 5) h.second.x.most c)))
    by_digits q i h (inr (a, inr (b, inr (c, d)))) =
        inr (digit_same q.first.x (i / 125) h.first.x.most a, inr (digit_same q.first.y (i / 25 % 5) h.first.y.most b, inr (digit_same q.second.x (i / 5 % 5) h.second.x.most c, digit_less q.second.y (i % 5) h.second.y.most d)))

-- ---- from places to matrices

module _ (C : Matrix2 → ℕ → Type 0) where
  at_place : (size : ℕ) → IsOfNoPlace C size → (q : Matrix2) → IsMatrix2Within 2 q → size_of q ≡ size → IsNotIn 96 (C q)
  at_place size none q h e =
      let i = at_index q h in
      let P : Matrix2 → Type 0 = λ m. IsNotIn 96 (C m) in
      subst P i (none (index_of q) (index_within q h) (ap size_of i ∙ e))

  -- the first place of the first size is that of the first matrix
  pub first_matrix : (size i z : ℕ) → ((s : ℕ) → s < size → IsOfNoPlace C s) → IsFirstPlace C size i z → IsFirstMatrix C (matrix_at i) z
  first_matrix size i z smaller f = record {
    bounded = bounded_at i f.within;
    point = f.point;
    first = λ q h b. before q h b;
  }
    where
      before : (q : Matrix2) → IsMatrix2Within 2 q → IsMatrixBefore q (matrix_at i) → IsNotIn 96 (C q)
      before q h (inl less) = at_place (size_of q) (smaller (size_of q) (omega (arith, f.of_size))) q h refl
      before q h (inr (e, g)) =
          let j = at_index q h in
          let P : Matrix2 → Type 0 = λ m. IsNotIn 96 (C m) in
          subst P j (f.first (index_of q) (greater_earlier q i h g) (ap size_of j ∙ e ∙ f.of_size))

  size_within : (q : Matrix2) → IsMatrix2Within 2 q → size_of q < 9
  size_within q h = omega (arith, h.first.x.most, h.first.y.most, h.second.x.most, h.second.y.most)

  pub no_matrix : ((s : ℕ) → s < 9 → IsOfNoPlace C s) → IsOfNoMatrix C
  no_matrix none q h = at_place (size_of q) (none (size_of q) (size_within q h)) q h refl

change_path : (c d : Change) → c.number ≡ d.number → c.matrix ≡ d.matrix → c.z ≡ d.z → c ≡ d
change_path c d k p z = λ i. record { number = k i; matrix = p i; z = z i }

abbrev change : ℕ → Matrix2 → ℕ → Change
change k p z = record { number = k; matrix = p; z = z }

-- ---- the first change from its steps
module _ (n : ℕ) (Has : Change → Type 0) where
  abbrev At : ℕ → Matrix2 → ℕ → Type 0
  At k p z = Has (record { number = k; matrix = p; z = z })

  pub first_change : (k : ℕ) (p : Matrix2) (z : ℕ) → 1 ≤ k → k ≤ n → ((j : ℕ) → 1 ≤ j → j < k → IsOfNoMatrix (At j)) → IsFirstMatrix (At k) p z
      → IsFirst n Has (record { number = k; matrix = p; z = z })
  first_change k p z from to none f = record {
    bounded = record { from = from; to = to; matrix = f.bounded; z = f.point.within };
    has = f.point.has;
    first = before;
  }
    where
      least : (d : Change) → Has d → d.number ≡ k → d.matrix ≡ p → (d ≡ change k p z) ⊎ (z < d.z)
      least d h ek ep =
          elim (compare_nat z d.z) [
            | inl s ↦ inr s
            | inr r ↦ elim r [
              | inl s ↦ inl (change_path d (change k p z) ek ep (sym s))
              | inr s ↦ absurd (f.point.least d.z s (subst Has (change_path d (change k p d.z) ek ep refl) h))
            ]
          ]

      before : (d : Change) → IsBounded n d → Has d → (d ≡ change k p z) ⊎ IsBefore (change k p z) d
      before d b h =
          before_or_same k d.number p d.matrix
          (λ less. none d.number b.from less d.matrix b.matrix d.z b.z h)
          (λ ek less. f.first d.matrix b.matrix less d.z b.z (subst Has (change_path d (change k d.matrix d.z) ek refl refl) h))
          (least d h)
