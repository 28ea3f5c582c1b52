-- Heights brought into the period.
use Rattle.std.proofs.Common.{◌≡◌, ℤ, pos, negsuc, ◌+ℤ◌, ◌-ℤ◌, ◌*ℤ◌, ◌≤ℤ◌, ◌<ℤ◌, ◌⊎◌, inl, inr, sym, ◌∙◌, ap, arith, [], ◌∷◌}
use Rattle.std.proofs.lemmas.Int.{ints}
use Rattle.fractions.specs.declared.part.TheConstants.{UNIT}
use Rattle.fractions.specs.Fraction.{SameFraction}
use Rattle.fractions.specs.LowestTerms.{lowest_terms, IsLowestForm}
use Rattle.fractions.proofs.Lowest.{IsLowestForm-lowest_terms}
use Rattle.integers.proofs.Division.{floor}
use Rattle.integers.proofs.Order.{mul_right_cancel_pos, mul-le-mul_right, one-le-mul, small_multiple, zero-le-mul, positive_or_not}
use Rattle.integers.proofs.Ring.{add_mul, mul_add}
use Rattle.integers.proofs.Solver.{Expr.{var, num, neg, ◌⊕◌, ◌⊝◌, ◌⊗◌}, linear, given, ring}
use Rattle.symmetry.specs.Planes.{Height, IsHeight}
use Rattle.symmetry.specs.Scans.{IsInPeriod}
use Rattle.symmetry.specs.HeightMotions.{HeightMotion}

-- ---- products and signs

-- one of two numbers is below the other, or not
below_or_not : (a b : ℤ) → (a <ℤ b) ⊎ (b ≤ℤ a)
below_or_not a b = elim (positive_or_not (b -ℤ a)) [ inl h ↦ inl (omega (arith, ints, h)) | inr h ↦ inr (omega (arith, ints, h)) ]

-- a factor of at least 1 is cancelled
pub less_by_factor : (q a b : ℤ) → pos 1 ≤ℤ q → (a *ℤ q) <ℤ (b *ℤ q) → a <ℤ b
less_by_factor q a b h l = by (below_or_not a b)
  where
    by : (a <ℤ b) ⊎ (b ≤ℤ a) → a <ℤ b
    by (inl k) = k
    by (inr k) = absurd (omega (arith, ints, mul-le-mul_right b a q (omega (arith, ints)) k))

-- x c = n y with n, c and y not negative
pub not_negative : (x c n y : ℤ) → pos 1 ≤ℤ c → pos 1 ≤ℤ y → pos 0 ≤ℤ n → x *ℤ c ≡ n *ℤ y → pos 0 ≤ℤ x
not_negative (pos x) c n y h k l e = omega (arith, ints)
not_negative (negsuc x) c n y h k l e =
    let top = mul-le-mul_right (negsuc x) (negsuc 0) c (omega (arith, ints)) (omega (arith, ints)) in
    let least = zero-le-mul n y l (omega (arith, ints)) in
    absurd (omega (arith, ints))

less_over : (x q u n y d : ℤ) → pos 1 ≤ℤ q → pos 1 ≤ℤ y → n <ℤ (d *ℤ q) → x *ℤ (q *ℤ u) ≡ n *ℤ y → (x *ℤ u) <ℤ (d *ℤ y)
less_over x q u n y d h k l e =
    let more = mul-le-mul_right (n +ℤ pos 1) (d *ℤ q) y (omega (arith, ints)) (omega (arith, ints)) in
    let sum = add_mul n (pos 1) y in
    let v = var in
    let out : x *ℤ u *ℤ q ≡ n *ℤ y = ring (x ∷ q ∷ u ∷ []) (v 0 ⊗ v 2 ⊗ v 1) (v 0 ⊗ (v 1 ⊗ v 2)) tt ∙ e in
    let turned : d *ℤ q *ℤ y ≡ d *ℤ y *ℤ q = ring (d ∷ q ∷ y ∷ []) (v 0 ⊗ v 1 ⊗ v 2) (v 0 ⊗ v 2 ⊗ v 1) tt in
    less_by_factor q (x *ℤ u) (d *ℤ y) h (omega (arith, ints))

-- ---- numbers in the period

-- the fraction N over q UNIT, in lowest terms, is in the period where 0 <= N < d q
module _ (d q n : ℤ) (positive : pos 1 ≤ℤ q) (from : pos 0 ≤ℤ n) (below : n <ℤ (d *ℤ q)) where
  abbrev reduced : Height
  reduced = lowest_terms n (q *ℤ UNIT)

  den_positive : pos 1 ≤ℤ (q *ℤ UNIT)
  den_positive = omega (arith, ints)

  pub reduced_form : IsLowestForm reduced n (q *ℤ UNIT)
  reduced_form = IsLowestForm-lowest_terms n (q *ℤ UNIT) (λ e. absurd (omega (arith, ints, den_positive, e)))

  pub reduced_in_period : IsInPeriod d reduced
  reduced_in_period = record {
    positive = reduced_form.positive;
    lowest = reduced_form.lowest;
    from = not_negative reduced.num (q *ℤ UNIT) n reduced.den den_positive reduced_form.positive from reduced_form.same;
    below = less_over reduced.num q UNIT n reduced.den d positive reduced_form.positive below reduced_form.same;
  }

-- ---- where a height goes, brought into the period

-- e p/q + t/UNIT is (e p UNIT + q t) over q UNIT
abbrev pub moved_number : Height → HeightMotion → ℤ
moved_number s h = h.sign *ℤ s.num *ℤ UNIT +ℤ s.den *ℤ h.shift

module _ (d : ℤ) (positive : pos 1 ≤ℤ d) (s : Height) (high : IsHeight s) where
  pub stretch : pos 1 ≤ℤ (d *ℤ s.den)
  stretch = one-le-mul d s.den positive high

  -- how many periods lie below
  abbrev pub periods_below : HeightMotion → ℤ
  periods_below h = (floor (moved_number s h) (d *ℤ s.den) stretch).0

  abbrev pub rest : HeightMotion → ℤ
  rest h = moved_number s h -ℤ d *ℤ s.den *ℤ periods_below h

  -- the height in the period
  abbrev pub height_in_period : HeightMotion → Height
  height_in_period h = lowest_terms (rest h) (s.den *ℤ UNIT)

  pub in_period : (h : HeightMotion) → IsInPeriod d (height_in_period h)
  in_period h =
      let f = floor (moved_number s h) (d *ℤ s.den) stretch in
      reduced_in_period d s.den (rest h) high f.1 f.2

  pub same_rest : (h : HeightMotion) → (height_in_period h).num *ℤ (s.den *ℤ UNIT) ≡ rest h *ℤ (height_in_period h).den
  same_rest h = let f = floor (moved_number s h) (d *ℤ s.den) stretch in (reduced_form d s.den (rest h) high f.1 f.2).same

  -- two such heights are one number only where the rests are
  pub one_rest : (h k : HeightMotion) → SameFraction (height_in_period h) (height_in_period k) → rest h ≡ rest k
  one_rest h k e =
      let f = floor (moved_number s h) (d *ℤ s.den) stretch in
      let g = floor (moved_number s k) (d *ℤ s.den) stretch in
      by_fractions (height_in_period h).num (height_in_period h).den (height_in_period k).num (height_in_period k).den (s.den *ℤ UNIT) (rest h) (rest k)
      (reduced_form d s.den (rest h) high f.1 f.2).positive (reduced_form d s.den (rest k) high g.1 g.2).positive (same_rest h) (same_rest k) e
    where
      -- x/y = a/c, x'/y' = b/c and x/y = x'/y'
      by_fractions : (x y x' y' c a b : ℤ) → pos 1 ≤ℤ y → pos 1 ≤ℤ y' → x *ℤ c ≡ a *ℤ y → x' *ℤ c ≡ b *ℤ y' → x *ℤ y' ≡ x' *ℤ y → a ≡ b
      by_fractions x y x' y' c a b h k p q e =
          let v = var in
          mul_right_cancel_pos a b (y *ℤ y') (one-le-mul y y' h k)
          (linear (x ∷ y ∷ x' ∷ y' ∷ c ∷ a ∷ b ∷ []) (v 5 ⊗ (v 1 ⊗ v 3)) (v 6 ⊗ (v 1 ⊗ v 3))
          (given (neg (v 3)) (v 0 ⊗ v 4) (v 5 ⊗ v 1) ∷ given (v 1) (v 2 ⊗ v 4) (v 6 ⊗ v 3) ∷ given (v 4) (v 0 ⊗ v 3) (v 2 ⊗ v 1) ∷ [])
          tt (p, (q, (e, tt))))

  -- a height in the period that is the moved one and some periods is this one
  pub only_in_period : (h : HeightMotion) (t : Height) (k : ℤ) → IsInPeriod d t
      → (moved_number s h +ℤ d *ℤ s.den *ℤ k) *ℤ t.den ≡ t.num *ℤ (UNIT *ℤ s.den) → SameFraction t (height_in_period h)
  only_in_period h t k inside e =
      let f = floor (moved_number s h) (d *ℤ s.den) stretch in
      let below = below_stretch t.num UNIT s.den (moved_number s h +ℤ d *ℤ s.den *ℤ k) t.den d high inside.positive inside.below e in
      let from = not_negative (moved_number s h +ℤ d *ℤ s.den *ℤ k) t.den t.num (UNIT *ℤ s.den) inside.positive (omega (arith, ints)) inside.from e in
      let same : moved_number s h +ℤ d *ℤ s.den *ℤ k ≡ rest h = one_remainder (moved_number s h) (d *ℤ s.den) k (periods_below h) from below f.1 f.2 in
      by_fractions t.num t.den (height_in_period h).num (height_in_period h).den UNIT s.den (rest h) (omega (arith, ints)) high
      (ap (λ x. x *ℤ t.den) (sym same) ∙ e) (same_rest h)
    where
      below_stretch : (x u q o y d : ℤ) → pos 1 ≤ℤ q → pos 1 ≤ℤ y → (x *ℤ u) <ℤ (d *ℤ y) → o *ℤ y ≡ x *ℤ (u *ℤ q) → o <ℤ (d *ℤ q)
      below_stretch x u q o y d h k l e =
          let v = var in
          let more = mul-le-mul_right (x *ℤ u +ℤ pos 1) (d *ℤ y) q (omega (arith, ints)) (omega (arith, ints)) in
          let sum = add_mul (x *ℤ u) (pos 1) q in
          let out : o *ℤ y ≡ x *ℤ u *ℤ q = e ∙ ring (x ∷ u ∷ q ∷ []) (v 0 ⊗ (v 1 ⊗ v 2)) (v 0 ⊗ v 1 ⊗ v 2) tt in
          let turned : d *ℤ y *ℤ q ≡ d *ℤ q *ℤ y = ring (d ∷ y ∷ q ∷ []) (v 0 ⊗ v 1 ⊗ v 2) (v 0 ⊗ v 2 ⊗ v 1) tt in
          less_by_factor y o (d *ℤ q) k (omega (arith, ints))

      one_remainder : (m c k b : ℤ) → pos 0 ≤ℤ (m +ℤ c *ℤ k) → (m +ℤ c *ℤ k) <ℤ c → pos 0 ≤ℤ (m -ℤ c *ℤ b) → (m -ℤ c *ℤ b) <ℤ c → m +ℤ c *ℤ k ≡ m -ℤ c *ℤ b
      one_remainder m c k b h l h' l' =
          let v = var in
          let apart : c *ℤ (k +ℤ b) ≡ c *ℤ k +ℤ c *ℤ b = mul_add c k b in
          let none : k +ℤ b ≡ pos 0 = small_multiple c (k +ℤ b) (omega (arith, ints)) (omega (arith, ints)) in
          linear (m ∷ c ∷ k ∷ b ∷ []) (v 0 ⊕ v 1 ⊗ v 2) (v 0 ⊝ v 1 ⊗ v 3) (given (v 1) (v 2 ⊕ v 3) (num (pos 0)) ∷ []) tt (none, tt)

      -- r y = x u q and x' q u = r y'
      by_fractions : (x y x' y' u q r : ℤ) → pos 1 ≤ℤ u → pos 1 ≤ℤ q → r *ℤ y ≡ x *ℤ (u *ℤ q) → x' *ℤ (q *ℤ u) ≡ r *ℤ y' → x *ℤ y' ≡ x' *ℤ y
      by_fractions x y x' y' u q r h k e p =
          let v = var in
          mul_right_cancel_pos (x *ℤ y') (x' *ℤ y) (u *ℤ q) (one-le-mul u q h k)
          (linear (x ∷ y ∷ x' ∷ y' ∷ u ∷ q ∷ r ∷ []) (v 0 ⊗ v 3 ⊗ (v 4 ⊗ v 5)) (v 2 ⊗ v 1 ⊗ (v 4 ⊗ v 5))
          (given (neg (v 3)) (v 6 ⊗ v 1) (v 0 ⊗ (v 4 ⊗ v 5)) ∷ given (neg (v 1)) (v 2 ⊗ (v 5 ⊗ v 4)) (v 6 ⊗ v 3) ∷ [])
          tt (e, (p, tt)))
