-- Places of triples: each place has one triple, and the greater triple stands first.
use native.Mathlib.Nat.{mod-lt, div-add-mod'}
use Rattle.std.proofs.Common.{◌≡◌, ℕ, ◌+◌, ◌*◌, ◌/◌, ◌%◌, ◌<◌, ℤ, pos, ◌+ℤ◌, ◌-ℤ◌, ◌*ℤ◌, ◌≤ℤ◌, ◌<ℤ◌, inl, inr, [], ◌∷◌, unsigned_abs, sym, ◌∙◌, ap, subst, arith}
use Rattle.std.proofs.lemmas.Bool.{cases_lt}
use Rattle.std.proofs.lemmas.Int.{ints}
use Rattle.integers.specs.Size.{IsWithin}
use Rattle.integers.proofs.Coded.{again, code_is}
use Rattle.integers.proofs.Order.{mul-le-mul_right}
use Rattle.integers.proofs.Solver.{Expr.{var, num, ◌⊕◌, ◌⊝◌, ◌⊗◌}, ring}
use Rattle.symmetry.specs.Sizes.{IsVectorWithin}
use Rattle.symmetry.specs.Vectors.{Vector}
use Rattle.symmetry.proofs.VectorLaws.{vector_path}
use Rattle.surveys.specs.Places.{place_of, side}
use Rattle.surveys.specs.Surveys.{IsGreater}
use Rattle.surveys.proofs.Greatest.{Compared.{greater, equal, less}, compared}

-- from 0 to below s
record IsDigit (s a : ℤ) : Type 0 where
  from : pos 0 ≤ℤ a
  below : a <ℤ s

digit_of : (n x : ℤ) → pos 1 ≤ℤ n → IsWithin (unsigned_abs n) x → IsDigit (side n) (n -ℤ x)
digit_of n x h w = record { from = omega (arith, ints, h, w.most); below = omega (arith, ints, h, w.most) }

-- ---- the order

lower_first : (s a b c a' b' c' : ℤ) → IsDigit s b → IsDigit s c → IsDigit s b' → IsDigit s c' → a <ℤ a' → ((a *ℤ s +ℤ b) *ℤ s +ℤ c) <ℤ ((a' *ℤ s +ℤ b') *ℤ s +ℤ c')
lower_first s a b c a' b' c' b_in c_in b'_in c'_in l =
    let one = mul-le-mul_right (a +ℤ pos 1) a' s (omega (arith, ints, b_in.from, b_in.below)) (omega (arith, ints, l)) in
    let out = ring (a ∷ s ∷ []) ((var 0 ⊕ num (pos 1)) ⊗ var 1) (var 0 ⊗ var 1 ⊕ var 1) tt in
    let two = mul-le-mul_right (a *ℤ s +ℤ b +ℤ pos 1) (a' *ℤ s +ℤ b') s (omega (arith, ints, b_in.from, b_in.below)) (omega (arith, ints, one, out, b_in.below, b'_in.from)) in
    let out' = ring ((a *ℤ s +ℤ b) ∷ s ∷ []) ((var 0 ⊕ num (pos 1)) ⊗ var 1) (var 0 ⊗ var 1 ⊕ var 1) tt in
    omega (arith, ints, two, out', c_in.below, c'_in.from)

lower_second : (s a b c b' c' : ℤ) → IsDigit s c → IsDigit s c' → b <ℤ b' → ((a *ℤ s +ℤ b) *ℤ s +ℤ c) <ℤ ((a *ℤ s +ℤ b') *ℤ s +ℤ c')
lower_second s a b c b' c' c_in c'_in l =
    let two = mul-le-mul_right (a *ℤ s +ℤ b +ℤ pos 1) (a *ℤ s +ℤ b') s (omega (arith, ints, c_in.from, c_in.below)) (omega (arith, ints, l)) in
    let out = ring ((a *ℤ s +ℤ b) ∷ s ∷ []) ((var 0 ⊕ num (pos 1)) ⊗ var 1) (var 0 ⊗ var 1 ⊕ var 1) tt in
    omega (arith, ints, two, out, c_in.below, c'_in.from)

module _ (n : ℤ) (from : pos 1 ≤ℤ n) where
  pub earlier : (r s : Vector) → IsVectorWithin (unsigned_abs n) r → IsVectorWithin (unsigned_abs n) s → IsGreater r s → place_of n r <ℤ place_of n s
  earlier r s p q (inl h) =
      lower_first (side n) (n -ℤ r.x) (n -ℤ r.y) (n -ℤ r.z) (n -ℤ s.x) (n -ℤ s.y) (n -ℤ s.z)
      (digit_of n r.y from p.y) (digit_of n r.z from p.z) (digit_of n s.y from q.y) (digit_of n s.z from q.z) (omega (arith, ints, h))
  earlier r s p q (inr (x, inl h)) =
      subst (λ z. place_of n r <ℤ (((n -ℤ z) *ℤ side n +ℤ (n -ℤ s.y)) *ℤ side n +ℤ (n -ℤ s.z))) x
      (lower_second (side n) (n -ℤ r.x) (n -ℤ r.y) (n -ℤ r.z) (n -ℤ s.y) (n -ℤ s.z) (digit_of n r.z from p.z) (digit_of n s.z from q.z) (omega (arith, ints, h)))
  earlier r s p q (inr (x, inr (y, h))) =
      subst (λ z. place_of n r <ℤ (((n -ℤ z) *ℤ side n +ℤ (n -ℤ s.y)) *ℤ side n +ℤ (n -ℤ s.z))) x
      (subst (λ z. place_of n r <ℤ (((n -ℤ r.x) *ℤ side n +ℤ (n -ℤ z)) *ℤ side n +ℤ (n -ℤ s.z))) y (omega (arith, ints, h)))

  -- the triple that stands first is greater
  pub greater_first : (r s : Vector) → IsVectorWithin (unsigned_abs n) r → IsVectorWithin (unsigned_abs n) s → place_of n r <ℤ place_of n s → IsGreater r s
  greater_first r s p q h = elim (compared r s) [
    | greater more ↦ more
    | equal e ↦ let same = ap (place_of n) e in absurd (omega (arith, ints, h, same))
    | less more ↦ let back = earlier s r q p more in absurd (omega (arith, ints, h, back))
  ]

  -- one place has one triple
  pub one_triple : (r s : Vector) → IsVectorWithin (unsigned_abs n) r → IsVectorWithin (unsigned_abs n) s → place_of n r ≡ place_of n s → r ≡ s
  one_triple r s p q e = elim (compared r s) [
    | greater more ↦ let l = earlier r s p q more in absurd (omega (arith, ints, e, l))
    | equal same ↦ same
    | less more ↦ let l = earlier s r q p more in absurd (omega (arith, ints, e, l))
  ]

-- ---- the triple at a place

module _ (n : ℤ) (from : pos 1 ≤ℤ n) (most : n ≤ℤ pos 5) (p : ℕ) (below : pos p <ℤ (side n *ℤ side n *ℤ side n)) (s : ℕ) (s_is : pos s ≡ side n)
    (a b c : ℤ) (a_is : a ≡ pos (p / s / s)) (b_is : b ≡ pos (p / s % s)) (c_is : c ≡ pos (p % s)) where
  positive : 0 < s
  positive = omega (arith, ints, s_is, from)

  first : p / s * s + p % s ≡ p
  first = div-add-mod' p s

  second : p / s / s * s + p / s % s ≡ p / s
  second = div-add-mod' (p / s) s

  sum : (a *ℤ side n +ℤ b) *ℤ side n +ℤ c ≡ pos p
  sum =
      (λ i. (a_is i *ℤ sym s_is i +ℤ b_is i) *ℤ sym s_is i +ℤ c_is i)
      ∙ ap (λ z. z *ℤ pos s +ℤ pos (p % s)) (ap pos second) ∙ ap pos first

  b_digit : IsDigit (side n) b
  b_digit = let l = mod-lt (p / s) {m = s} positive in record { from = omega (arith, ints, b_is); below = omega (arith, ints, b_is, s_is, l) }

  c_digit : IsDigit (side n) c
  c_digit = let l = mod-lt p {m = s} positive in record { from = omega (arith, ints, c_is); below = omega (arith, ints, c_is, s_is, l) }

  a_digit : IsDigit (side n) a
  a_digit = record {
    from = omega (arith, ints, a_is);
    below = elim (cases_lt (p / s / s) s) [
      | inl l ↦ omega (arith, ints, a_is, s_is, l)
      | inr le ↦
          let t = side n in
          let most_a : t ≤ℤ a = omega (arith, ints, a_is, s_is, le) in
          let one = mul-le-mul_right t a t (omega (arith, ints, from)) most_a in
          let two = mul-le-mul_right (t *ℤ t) (a *ℤ t +ℤ b) t (omega (arith, ints, from)) (omega (arith, ints, one, b_digit.from)) in
          absurd (omega (arith, ints, two, sum, below, c_digit.from))
    ];
  }

  entry : (d : ℤ) → IsDigit (side n) d → IsWithin (unsigned_abs n) (n -ℤ d)
  entry d h = record { most = omega (arith, ints, from, h.from, h.below) }

  coded_entry : (d : ℤ) → IsDigit (side n) d → again (again n -ℤ again d) ≡ n -ℤ d
  coded_entry d h =
      code_is (5 ∷ 10 ∷ []) (n ∷ d ∷ []) (var 0 ⊝ var 1) tt
      (record { most = omega (arith, ints, from, most) }, (record { most = omega (arith, ints, most, h.from, h.below) }, tt))

  abbrev triple : Vector
  triple = record { x = n -ℤ a; y = n -ℤ b; z = n -ℤ c }

  coded_triple : record { x = again (again n -ℤ again a); y = again (again n -ℤ again b); z = again (again n -ℤ again c) } ≡ triple
  coded_triple = vector_path (coded_entry a a_digit) (coded_entry b b_digit) (coded_entry c c_digit)

  pub triple_within : IsVectorWithin (unsigned_abs n) (record { x = again (again n -ℤ again a); y = again (again n -ℤ again b); z = again (again n -ℤ again c) })
  triple_within = subst (IsVectorWithin (unsigned_abs n)) (sym coded_triple) (record { x = entry a a_digit; y = entry b b_digit; z = entry c c_digit })

  pub triple_place : place_of n (record { x = again (again n -ℤ again a); y = again (again n -ℤ again b); z = again (again n -ℤ again c) }) ≡ pos p
  triple_place = ap (place_of n) coded_triple ∙ opened n a b c (side n) ∙ sum
    where
      opened : (n a b c s : ℤ) → ((n -ℤ (n -ℤ a)) *ℤ s +ℤ (n -ℤ (n -ℤ b))) *ℤ s +ℤ (n -ℤ (n -ℤ c)) ≡ (a *ℤ s +ℤ b) *ℤ s +ℤ c
      opened n a b c s =
          let v = var in
          ring (n ∷ a ∷ b ∷ c ∷ s ∷ []) (((v 0 ⊝ (v 0 ⊝ v 1)) ⊗ v 4 ⊕ (v 0 ⊝ (v 0 ⊝ v 2))) ⊗ v 4 ⊕ (v 0 ⊝ (v 0 ⊝ v 3))) ((v 1 ⊗ v 4 ⊕ v 2) ⊗ v 4 ⊕ v 3) tt
