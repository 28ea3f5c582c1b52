-- The motions that take every point of a slab to a point of it, told by the plane in the middle.
use Rattle.std.proofs.Common.{◌≡◌, ◌↔◌, ℤ, pos, negsuc, ◌+ℤ◌, ◌-ℤ◌, ◌*ℤ◌, ◌≤ℤ◌, ◌⊎◌, inl, inr, refl, sym, ◌∙◌, ap, subst, arith, [], ◌∷◌}
use Rattle.std.proofs.lemmas.Int.{ints, by_lt_z}
use Rattle.fractions.specs.declared.part.TheConstants.{UNIT}
use Rattle.fractions.specs.LowestTerms.{IsLowestForm}
use Rattle.fractions.proofs.Lowest.{IsLowestForm-lowest_terms}
use Rattle.integers.proofs.Order.{mul_left_cancel_pos, one-le-mul}
use Rattle.integers.proofs.Ring.{mul_assoc, mul_one, mul_zero}
use Rattle.integers.proofs.Solver.{Expr.{var, num, neg, ◌⊕◌, ◌⊝◌, ◌⊗◌}, ring, linear, given}
use Rattle.symmetry.specs.Vectors.{Vector, plus, multiple, dot, opposite, row_times}
use Rattle.symmetry.specs.Motions.{Motion, Point, IsPoint, moved, identity}
use Rattle.symmetry.specs.Planes.{Height, IsHeight, IsCoprime, IsInvertible, KeepsPlane, KeepsRow, MapsPlane, TurnsRow}
use Rattle.symmetry.specs.Groups.{Listing, IsMember, IsGroup, InStabiliser}
use Rattle.symmetry.proofs.VectorLaws.{dot-plus, dot-multiple, multiple-dot, multiple-one}
use Rattle.symmetry.proofs.Coprime.{unit_column}
use Rattle.symmetry.proofs.PlaneImages.{dot-moved, image_by_row}
use Rattle.symmetry.proofs.PlaneRows.{member_invertible, plane_by_row}
use Rattle.symmetry.specs.Scans.{IsLower}
use Rattle.slabs.specs.Slabs.{IsAtMost, IsInSlab, KeepsSlab, InSlabStabiliser, half_sum}
use Rattle.slabs.proofs.Orders.{bounded_is_constant, follows}

-- ---- the middle

-- (hkl).w is low + high, which is counted in parts
abbrev IsSum : Vector → Height → Height → Motion → Type 0
IsSum r low high m = (low.den *ℤ high.den) *ℤ dot r m.translation ≡ (low.num *ℤ high.den +ℤ high.num *ℤ low.den) *ℤ UNIT

module _ (low high : Height) (is_low : IsHeight low) (is_high : IsHeight high) where
  pub twice_positive : pos 1 ≤ℤ (pos 2 *ℤ low.den *ℤ high.den)
  twice_positive =
      one-le-mul (pos 2 *ℤ low.den) high.den (one-le-mul (pos 2) low.den (omega (arith, ints)) is_low) is_high

  middle_form : IsLowestForm (half_sum low high) (low.num *ℤ high.den +ℤ high.num *ℤ low.den) (pos 2 *ℤ low.den *ℤ high.den)
  middle_form =
      IsLowestForm-lowest_terms _ _ (λ zero. absurd (omega (arith, ints, twice_positive)))

  pub middle_is_height : IsHeight (half_sum low high)
  middle_is_height = middle_form.positive

  -- so it is twice the middle
  sum_is_twice : (c p q n a b : ℤ) → pos 1 ≤ℤ a → p *ℤ (pos 2 *ℤ a) ≡ b *ℤ q → a *ℤ c ≡ b *ℤ n → pos 2 *ℤ p *ℤ n ≡ q *ℤ c
  sum_is_twice c p q n a b h e f =
      mul_left_cancel_pos a _ _ h
      (linear (c ∷ p ∷ q ∷ n ∷ a ∷ b ∷ [])
      (var 4 ⊗ (num (pos 2) ⊗ var 1 ⊗ var 3)) (var 4 ⊗ (var 2 ⊗ var 0))
      (given (var 3) (var 1 ⊗ (num (pos 2) ⊗ var 4)) (var 5 ⊗ var 2)
      ∷ given (neg (var 2)) (var 4 ⊗ var 0) (var 5 ⊗ var 3) ∷ []) tt (e, (f, tt)))

  twice_is_sum : (c p q n a b : ℤ) → pos 1 ≤ℤ q → p *ℤ (pos 2 *ℤ a) ≡ b *ℤ q → pos 2 *ℤ p *ℤ n ≡ q *ℤ c → a *ℤ c ≡ b *ℤ n
  twice_is_sum c p q n a b h e f =
      mul_left_cancel_pos q _ _ h
      (linear (c ∷ p ∷ q ∷ n ∷ a ∷ b ∷ [])
      (var 2 ⊗ (var 4 ⊗ var 0)) (var 2 ⊗ (var 5 ⊗ var 3))
      (given (var 3) (var 1 ⊗ (num (pos 2) ⊗ var 4)) (var 5 ⊗ var 2)
      ∷ given (neg (var 4)) (num (pos 2) ⊗ var 1 ⊗ var 3) (var 2 ⊗ var 0) ∷ []) tt (e, (f, tt)))

  pub turns_about_middle : (r : Vector) (m : Motion) → row_times r m.matrix ≡ opposite r
      → IsSum r low high m ↔ TurnsRow r (half_sum low high) m
  turns_about_middle r m turned =
      let q = half_sum low high in
      let a = low.den *ℤ high.den in
      let b = low.num *ℤ high.den +ℤ high.num *ℤ low.den in
      let same : q.num *ℤ (pos 2 *ℤ a) ≡ b *ℤ q.den = ap (λ x. q.num *ℤ x) (sym (mul_assoc (pos 2) low.den high.den)) ∙ middle_form.same in (
        λ sum. (turned, sum_is_twice (dot r m.translation) q.num q.den UNIT a b (one-le-mul low.den high.den is_low is_high) same sum),
        λ turns. twice_is_sum (dot r m.translation) q.num q.den UNIT a b middle_form.positive same turns.1,
      )

-- ---- from points to rows

module _ (r : Vector) (low high : Height) (m : Motion) (is_low : IsHeight low) (is_high : IsHeight high) (order : IsAtMost low high)
    (u : Vector) (one : dot r u ≡ pos 1) where
  -- the row (hkl) W
  abbrev turned : Vector
  turned = row_times r m.matrix

  abbrev shift : ℤ
  shift = dot r m.translation

  -- a point of the plane low, moved by a whole multiple of a column that the row takes to 0
  abbrev beside : Vector → ℤ → Point
  beside e k = record { at = plus (multiple low.num u) (multiple k e); over = low.den }

  -- what a row says of it
  at_beside : (t e : Vector) (k : ℤ) → dot t (beside e k).at ≡ low.num *ℤ dot t u +ℤ k *ℤ dot t e
  at_beside t e k = dot-plus t (multiple low.num u) (multiple k e) ∙ (λ i. dot-multiple t low.num u i +ℤ dot-multiple t k e i)

  -- points of the planes low and high
  abbrev over : Height → Point
  over s = record { at = multiple s.num u; over = s.den }

  over_height : (s : Height) → dot r (over s).at ≡ s.num
  over_height s = dot-multiple r s.num u ∙ ap (λ n. s.num *ℤ n) one ∙ mul_one s.num

  beside_height : (e : Vector) (k : ℤ) → dot r e ≡ pos 0 → dot r (beside e k).at ≡ low.num
  beside_height e k z =
      at_beside r e k ∙ (λ i. low.num *ℤ one i +ℤ k *ℤ z i) ∙ numbers low.num k
    where
      numbers : (p k : ℤ) → p *ℤ pos 1 +ℤ k *ℤ pos 0 ≡ p
      numbers p k = ring (p ∷ k ∷ []) (var 0 ⊗ num (pos 1) ⊕ var 1 ⊗ num (pos 0)) (var 0) tt

  -- a point of the plane low or high is in the slab
  on_low : (p : Point) → dot r p.at ≡ low.num → p.over ≡ low.den → IsInSlab r low high p
  on_low p a n = record {
    from = subst (λ x. (low.num *ℤ p.over) ≤ℤ (x *ℤ low.den)) (sym a) (subst (λ x. (low.num *ℤ x) ≤ℤ (low.num *ℤ low.den)) (sym n) (omega (arith, ints)));
    to = subst (λ x. (x *ℤ high.den) ≤ℤ (high.num *ℤ p.over)) (sym a) (subst (λ x. (low.num *ℤ high.den) ≤ℤ (high.num *ℤ x)) (sym n) order);
  }

  on_high : (p : Point) → dot r p.at ≡ high.num → p.over ≡ high.den → IsInSlab r low high p
  on_high p a n = record {
    from = subst (λ x. (low.num *ℤ p.over) ≤ℤ (x *ℤ low.den)) (sym a) (subst (λ x. (low.num *ℤ x) ≤ℤ (high.num *ℤ low.den)) (sym n) order);
    to = subst (λ x. (x *ℤ high.den) ≤ℤ (high.num *ℤ p.over)) (sym a) (subst (λ x. (high.num *ℤ high.den) ≤ℤ (high.num *ℤ x)) (sym n) (omega (arith, ints)));
  }

  module _ (keeps : KeepsSlab r low high m) where
    -- the images of the points of the plane low stay above one height
    image_above : (e : Vector) → dot r e ≡ pos 0 → (k : ℤ)
        → (low.num *ℤ (UNIT *ℤ low.den)) ≤ℤ ((UNIT *ℤ (low.num *ℤ dot turned u +ℤ k *ℤ dot turned e) +ℤ low.den *ℤ shift) *ℤ low.den)
    image_above e z k =
        subst (λ x. (low.num *ℤ (UNIT *ℤ low.den)) ≤ℤ (x *ℤ low.den))
        (dot-moved r m (beside e k) ∙ ap (λ x. UNIT *ℤ x +ℤ low.den *ℤ shift) (at_beside turned e k))
        (keeps (beside e k) is_low (on_low (beside e k) (beside_height e k z) refl)).from

    -- so the row (hkl) W takes to 0 what (hkl) takes to 0
    both_zero : (e : Vector) → dot r e ≡ pos 0 → dot turned e ≡ pos 0
    both_zero e z =
        factor_zero UNIT low.den (dot turned e) (omega (arith, ints)) is_low
        (bounded_is_constant _ _ (λ k. shifted low.num UNIT low.den (dot turned u) (dot turned e) shift k (image_above e z k)))
      where
        shifted : (p n q a b c k : ℤ) → (p *ℤ (n *ℤ q)) ≤ℤ ((n *ℤ (p *ℤ a +ℤ k *ℤ b) +ℤ q *ℤ c) *ℤ q)
            → pos 0 ≤ℤ (((n *ℤ (p *ℤ a) +ℤ q *ℤ c) *ℤ q -ℤ p *ℤ (n *ℤ q)) +ℤ k *ℤ (n *ℤ q *ℤ b))
        shifted p n q a b c k h =
            let e = ring (p ∷ n ∷ q ∷ a ∷ b ∷ c ∷ k ∷ [])
            ((var 1 ⊗ (var 0 ⊗ var 3 ⊕ var 6 ⊗ var 4) ⊕ var 2 ⊗ var 5) ⊗ var 2)
            (((var 1 ⊗ (var 0 ⊗ var 3) ⊕ var 2 ⊗ var 5) ⊗ var 2) ⊕ var 6 ⊗ (var 1 ⊗ var 2 ⊗ var 4)) tt in
            omega (arith, ints)

        factor_zero : (n q b : ℤ) → pos 1 ≤ℤ n → pos 1 ≤ℤ q → n *ℤ q *ℤ b ≡ pos 0 → b ≡ pos 0
        factor_zero n q b hn hq e = mul_left_cancel_pos (n *ℤ q) b (pos 0) (one-le-mul n q hn hq) (e ∙ sym (mul_zero (n *ℤ q)))

    -- so the plane low goes to one plane
    abbrev image_height : Height
    image_height = record { num = UNIT *ℤ (low.num *ℤ dot turned u) +ℤ low.den *ℤ shift; den = UNIT *ℤ low.den }

    image_is_height : IsHeight image_height
    image_is_height = one-le-mul UNIT low.den (omega (arith, ints)) is_low

    maps_low : MapsPlane r low image_height m
    maps_low p point on =
        ap (λ x. x *ℤ (UNIT *ℤ low.den)) (dot-moved r m p)
        ∙ carried UNIT low.num low.den p.over (dot turned u) (dot turned p.at) shift level
      where
        -- from p.over times the point of the plane low to low.den times p
        between : Vector
        between = plus (multiple low.den p.at) (multiple (negsuc 0 *ℤ (p.over *ℤ low.num)) u)

        at_between : (t : Vector) → dot t between ≡ low.den *ℤ dot t p.at +ℤ (negsuc 0 *ℤ (p.over *ℤ low.num)) *ℤ dot t u
        at_between t =
            dot-plus t (multiple low.den p.at) (multiple (negsuc 0 *ℤ (p.over *ℤ low.num)) u)
            ∙ (λ i. dot-multiple t low.den p.at i +ℤ dot-multiple t (negsuc 0 *ℤ (p.over *ℤ low.num)) u i)

        flat : (d x n q : ℤ) → x *ℤ d ≡ q *ℤ n → d *ℤ x +ℤ (negsuc 0 *ℤ (n *ℤ q)) *ℤ pos 1 ≡ pos 0
        flat d x n q e =
            linear (d ∷ x ∷ n ∷ q ∷ []) (var 0 ⊗ var 1 ⊕ (num (negsuc 0) ⊗ (var 2 ⊗ var 3)) ⊗ num (pos 1)) (num (pos 0))
            (given (num (pos 1)) (var 1 ⊗ var 0) (var 3 ⊗ var 2) ∷ []) tt (e, tt)

        level : low.den *ℤ dot turned p.at +ℤ (negsuc 0 *ℤ (p.over *ℤ low.num)) *ℤ dot turned u ≡ pos 0
        level =
            sym (at_between turned)
            ∙ both_zero between
            (at_between r ∙ ap (λ x. low.den *ℤ dot r p.at +ℤ (negsuc 0 *ℤ (p.over *ℤ low.num)) *ℤ x) one ∙ flat low.den (dot r p.at) p.over low.num on)

        carried : (n q d o a x c : ℤ) → d *ℤ x +ℤ (negsuc 0 *ℤ (o *ℤ q)) *ℤ a ≡ pos 0
            → (n *ℤ x +ℤ o *ℤ c) *ℤ (n *ℤ d) ≡ (n *ℤ (q *ℤ a) +ℤ d *ℤ c) *ℤ (n *ℤ o)
        carried n q d o a x c e =
            linear (n ∷ q ∷ d ∷ o ∷ a ∷ x ∷ c ∷ [])
            ((var 0 ⊗ var 5 ⊕ var 3 ⊗ var 6) ⊗ (var 0 ⊗ var 2)) ((var 0 ⊗ (var 1 ⊗ var 4) ⊕ var 2 ⊗ var 6) ⊗ (var 0 ⊗ var 3))
            (given (var 0 ⊗ var 0) (var 2 ⊗ var 5 ⊕ (num (negsuc 0) ⊗ (var 3 ⊗ var 1)) ⊗ var 4) (num (pos 0)) ∷ []) tt (e, tt)

    -- what the image of a point of the slab says, where (hkl) W = e (hkl)
    image_at : (e : ℤ) → turned ≡ multiple e r → (s : Height) → dot r (moved m (over s)).at ≡ UNIT *ℤ (e *ℤ s.num) +ℤ s.den *ℤ shift
    image_at e same s =
        dot-moved r m (over s)
        ∙ ap (λ x. UNIT *ℤ x +ℤ s.den *ℤ shift) (ap (λ t. dot t (over s).at) same ∙ multiple-dot e r (over s).at ∙ ap (λ x. e *ℤ x) (over_height s))

    low_image : IsInSlab r low high (moved m (over low))
    low_image = keeps (over low) is_low (on_low (over low) (over_height low) refl)

    high_image : IsInSlab r low high (moved m (over high))
    high_image = keeps (over high) is_high (on_high (over high) (over_height high) refl)

    -- a motion that keeps the row raises neither the one plane nor lowers the other
    keeps_row : turned ≡ multiple (pos 1) r → KeepsRow r m
    keeps_row same = (
      same ∙ multiple-one r,
      no_shift UNIT low.num low.den high.num high.den shift is_low is_high
          (subst (λ x. (low.num *ℤ (UNIT *ℤ low.den)) ≤ℤ (x *ℤ low.den)) (image_at (pos 1) same low) low_image.from)
          (subst (λ x. (x *ℤ high.den) ≤ℤ (high.num *ℤ (UNIT *ℤ high.den))) (image_at (pos 1) same high) high_image.to),
    )
      where
        no_shift : (n p q p' q' c : ℤ) → pos 1 ≤ℤ q → pos 1 ≤ℤ q'
            → (p *ℤ (n *ℤ q)) ≤ℤ ((n *ℤ (pos 1 *ℤ p) +ℤ q *ℤ c) *ℤ q)
            → ((n *ℤ (pos 1 *ℤ p') +ℤ q' *ℤ c) *ℤ q') ≤ℤ (p' *ℤ (n *ℤ q')) → c ≡ pos 0
        no_shift n p q p' q' c h h' f g =
            let least = follows (q *ℤ q) (pos 1) _ _ (pos 0) c (one-le-mul q q h h) (omega (arith, ints)) f
            (ring (n ∷ p ∷ q ∷ c ∷ []) ((var 2 ⊗ var 2) ⊗ (var 3 ⊝ num (pos 0)))
            (num (pos 1) ⊗ ((var 0 ⊗ (num (pos 1) ⊗ var 1) ⊕ var 2 ⊗ var 3) ⊗ var 2 ⊝ var 1 ⊗ (var 0 ⊗ var 2))) tt) in
            let most = follows (q' *ℤ q') (pos 1) _ _ c (pos 0) (one-le-mul q' q' h' h') (omega (arith, ints)) g
            (ring (n ∷ p' ∷ q' ∷ c ∷ []) ((var 2 ⊗ var 2) ⊗ (num (pos 0) ⊝ var 3))
            (num (pos 1) ⊗ (var 1 ⊗ (var 0 ⊗ var 2) ⊝ (var 0 ⊗ (num (pos 1) ⊗ var 1) ⊕ var 2 ⊗ var 3) ⊗ var 2)) tt) in
            omega (arith, ints)

    -- one that turns it exchanges them
    exchanges : turned ≡ multiple (negsuc 0) r → IsSum r low high m
    exchanges same =
        all_shift UNIT low.num low.den high.num high.den shift
        (subst (λ x. (x *ℤ high.den) ≤ℤ (high.num *ℤ (UNIT *ℤ low.den))) (image_at (negsuc 0) same low) low_image.to)
        (subst (λ x. (low.num *ℤ (UNIT *ℤ high.den)) ≤ℤ (x *ℤ low.den)) (image_at (negsuc 0) same high) high_image.from)
      where
        all_shift : (n p q p' q' c : ℤ)
            → ((n *ℤ (negsuc 0 *ℤ p) +ℤ q *ℤ c) *ℤ q') ≤ℤ (p' *ℤ (n *ℤ q))
            → (p *ℤ (n *ℤ q')) ≤ℤ ((n *ℤ (negsuc 0 *ℤ p') +ℤ q' *ℤ c) *ℤ q)
            → (q *ℤ q') *ℤ c ≡ (p *ℤ q' +ℤ p' *ℤ q) *ℤ n
        all_shift n p q p' q' c f g =
            let most = follows (pos 1) (pos 1) _ _ ((q *ℤ q') *ℤ c) ((p *ℤ q' +ℤ p' *ℤ q) *ℤ n) (omega (arith, ints)) (omega (arith, ints)) f
            (ring (n ∷ p ∷ q ∷ p' ∷ q' ∷ c ∷ []) (num (pos 1) ⊗ ((var 1 ⊗ var 4 ⊕ var 3 ⊗ var 2) ⊗ var 0 ⊝ (var 2 ⊗ var 4) ⊗ var 5))
            (num (pos 1) ⊗ (var 3 ⊗ (var 0 ⊗ var 2) ⊝ (var 0 ⊗ (num (negsuc 0) ⊗ var 1) ⊕ var 2 ⊗ var 5) ⊗ var 4)) tt) in
            let least = follows (pos 1) (pos 1) _ _ ((p *ℤ q' +ℤ p' *ℤ q) *ℤ n) ((q *ℤ q') *ℤ c) (omega (arith, ints)) (omega (arith, ints)) g
            (ring (n ∷ p ∷ q ∷ p' ∷ q' ∷ c ∷ []) (num (pos 1) ⊗ ((var 2 ⊗ var 4) ⊗ var 5 ⊝ (var 1 ⊗ var 4 ⊕ var 3 ⊗ var 2) ⊗ var 0))
            (num (pos 1) ⊗ ((var 0 ⊗ (num (negsuc 0) ⊗ var 3) ⊕ var 4 ⊗ var 5) ⊗ var 2 ⊝ var 1 ⊗ (var 0 ⊗ var 4))) tt) in
            omega (arith, ints)

    pub rows : IsCoprime r → IsInvertible m.matrix → KeepsRow r m ⊎ TurnsRow r (half_sum low high) m
    rows coprime inverse =
        elim ((image_by_row r low image_height m coprime is_low image_is_height inverse).0 maps_low) [
          | inl k ↦ inl (keeps_row k.0)
          | inr k ↦ inr ((turns_about_middle low high is_low is_high r m k.0).0 (exchanges k.0))
        ]

-- ---- from rows to points

module _ (r : Vector) (low high : Height) (m : Motion) (is_low : IsHeight low) (is_high : IsHeight high) where
  -- where the image of a point of the slab is
  image_of : (e : ℤ) → row_times r m.matrix ≡ multiple e r → (p : Point)
      → dot r (moved m p).at ≡ UNIT *ℤ (e *ℤ dot r p.at) +ℤ p.over *ℤ dot r m.translation
  image_of e same p =
      dot-moved r m p ∙ ap (λ x. UNIT *ℤ x +ℤ p.over *ℤ dot r m.translation) (ap (λ t. dot t p.at) same ∙ multiple-dot e r p.at)

  pub kept_slab : KeepsRow r m → KeepsSlab r low high m
  kept_slab k p point in_it =
      let is = image_of (pos 1) (k.0 ∙ sym (multiple-one r)) p ∙ ap (λ x. UNIT *ℤ (pos 1 *ℤ dot r p.at) +ℤ p.over *ℤ x) k.1 in record {
        from = subst (λ x. (low.num *ℤ (UNIT *ℤ p.over)) ≤ℤ (x *ℤ low.den)) (sym is)
            (follows (pos 1) UNIT _ _ _ _ (omega (arith, ints)) (omega (arith, ints)) in_it.from
            (ring (UNIT ∷ low.num ∷ low.den ∷ dot r p.at ∷ p.over ∷ [])
            (num (pos 1) ⊗ ((var 0 ⊗ (num (pos 1) ⊗ var 3) ⊕ var 4 ⊗ num (pos 0)) ⊗ var 2 ⊝ var 1 ⊗ (var 0 ⊗ var 4)))
            (var 0 ⊗ (var 3 ⊗ var 2 ⊝ var 1 ⊗ var 4)) tt));
        to = subst (λ x. (x *ℤ high.den) ≤ℤ (high.num *ℤ (UNIT *ℤ p.over))) (sym is)
            (follows (pos 1) UNIT _ _ _ _ (omega (arith, ints)) (omega (arith, ints)) in_it.to
            (ring (UNIT ∷ high.num ∷ high.den ∷ dot r p.at ∷ p.over ∷ [])
            (num (pos 1) ⊗ (var 1 ⊗ (var 0 ⊗ var 4) ⊝ (var 0 ⊗ (num (pos 1) ⊗ var 3) ⊕ var 4 ⊗ num (pos 0)) ⊗ var 2))
            (var 0 ⊗ (var 1 ⊗ var 4 ⊝ var 3 ⊗ var 2)) tt));
      }

  pub turned_slab : row_times r m.matrix ≡ opposite r → IsSum r low high m → KeepsSlab r low high m
  turned_slab same sum p point in_it =
      let is = image_of (negsuc 0) same p in record {
        from = subst (λ x. (low.num *ℤ (UNIT *ℤ p.over)) ≤ℤ (x *ℤ low.den)) (sym is)
            (follows high.den (UNIT *ℤ low.den) _ _ _ _ is_high (positive UNIT low.den (omega (arith, ints)) is_low) in_it.to
            (from_high UNIT low.num low.den high.num high.den (dot r p.at) p.over (dot r m.translation) sum));
        to = subst (λ x. (x *ℤ high.den) ≤ℤ (high.num *ℤ (UNIT *ℤ p.over))) (sym is)
            (follows low.den (UNIT *ℤ high.den) _ _ _ _ is_low (positive UNIT high.den (omega (arith, ints)) is_high) in_it.from
            (from_low UNIT low.num low.den high.num high.den (dot r p.at) p.over (dot r m.translation) sum));
      }
    where
      positive : (a b : ℤ) → pos 1 ≤ℤ a → pos 1 ≤ℤ b → pos 0 ≤ℤ (a *ℤ b)
      positive a b h h' = omega (arith, ints, one-le-mul a b h h')

      from_high : (n p q p' q' x o c : ℤ) → (q *ℤ q') *ℤ c ≡ (p *ℤ q' +ℤ p' *ℤ q) *ℤ n
          → q' *ℤ ((n *ℤ (negsuc 0 *ℤ x) +ℤ o *ℤ c) *ℤ q -ℤ p *ℤ (n *ℤ o)) ≡ (n *ℤ q) *ℤ (p' *ℤ o -ℤ x *ℤ q')
      from_high n p q p' q' x o c e =
          linear (n ∷ p ∷ q ∷ p' ∷ q' ∷ x ∷ o ∷ c ∷ [])
          (var 4 ⊗ ((var 0 ⊗ (num (negsuc 0) ⊗ var 5) ⊕ var 6 ⊗ var 7) ⊗ var 2 ⊝ var 1 ⊗ (var 0 ⊗ var 6)))
          ((var 0 ⊗ var 2) ⊗ (var 3 ⊗ var 6 ⊝ var 5 ⊗ var 4))
          (given (var 6) ((var 2 ⊗ var 4) ⊗ var 7) ((var 1 ⊗ var 4 ⊕ var 3 ⊗ var 2) ⊗ var 0) ∷ []) tt (e, tt)

      from_low : (n p q p' q' x o c : ℤ) → (q *ℤ q') *ℤ c ≡ (p *ℤ q' +ℤ p' *ℤ q) *ℤ n
          → q *ℤ (p' *ℤ (n *ℤ o) -ℤ (n *ℤ (negsuc 0 *ℤ x) +ℤ o *ℤ c) *ℤ q') ≡ (n *ℤ q') *ℤ (x *ℤ q -ℤ p *ℤ o)
      from_low n p q p' q' x o c e =
          linear (n ∷ p ∷ q ∷ p' ∷ q' ∷ x ∷ o ∷ c ∷ [])
          (var 2 ⊗ (var 3 ⊗ (var 0 ⊗ var 6) ⊝ (var 0 ⊗ (num (negsuc 0) ⊗ var 5) ⊕ var 6 ⊗ var 7) ⊗ var 4))
          ((var 0 ⊗ var 4) ⊗ (var 5 ⊗ var 2 ⊝ var 1 ⊗ var 6))
          (given (neg (var 6)) ((var 2 ⊗ var 4) ⊗ var 7) ((var 1 ⊗ var 4 ⊕ var 3 ⊗ var 2) ⊗ var 0) ∷ []) tt (e, tt)

-- ---- the theorem

pub slab_by_middle : (r : Vector) (low high : Height) (m : Motion) → IsCoprime r → IsHeight low → IsHeight high → IsAtMost low high
    → IsInvertible m.matrix → KeepsSlab r low high m ↔ KeepsPlane r (half_sum low high) m
slab_by_middle r low high m coprime is_low is_high order inverse =
    let by = plane_by_row r (half_sum low high) m coprime (middle_is_height low high is_low is_high) inverse in
    let (u, one) = unit_column r coprime in (
      λ keeps. by.1 (rows r low high m is_low is_high order u one keeps coprime inverse),
      λ keeps. elim (by.0 keeps) [
        | inl k ↦ kept_slab r low high m is_low is_high k
        | inr k ↦ turned_slab r low high m is_low is_high k.0 ((turns_about_middle low high is_low is_high r m k.0).1 k)
      ],
    )

pub stabiliser_by_middle : (g : Listing) (r : Vector) (low high : Height) (m : Motion) → IsGroup g → IsCoprime r → IsHeight low
    → IsHeight high → IsAtMost low high → InSlabStabiliser g r low high m ↔ InStabiliser g r (half_sum low high) m
stabiliser_by_middle g r low high m group coprime is_low is_high order =
    let by : IsMember g m → KeepsSlab r low high m ↔ KeepsPlane r (half_sum low high) m =
    λ member. slab_by_middle r low high m coprime is_low is_high order (member_invertible g m group member) in
    (λ in_it. (in_it.0, (by in_it.0).0 in_it.1), λ in_it. (in_it.0, (by in_it.0).1 in_it.1))

-- ---- empty slabs

pub empty_by_heights : (r : Vector) (low high : Height) → IsCoprime r → IsHeight low → IsHeight high
    → ((p : Point) → IsPoint p → ¬ IsInSlab r low high p) ↔ IsLower high low
empty_by_heights r low high coprime is_low is_high = (lower, empty)
  where
    lower : ((p : Point) → IsPoint p → ¬ IsInSlab r low high p) → IsLower high low
    lower none =
        let (u, one) = unit_column r coprime in
        by_lt_z (high.num *ℤ low.den) (low.num *ℤ high.den) (λ below. below)
        (λ order. absurd (none (record { at = multiple low.num u; over = low.den }) is_low
        (on_low r low high identity is_low is_high order u one _ (dot-multiple r low.num u ∙ ap (λ n. low.num *ℤ n) one ∙ mul_one low.num) refl)))

    crossed : (p q p' q' a n : ℤ) → pos 1 ≤ℤ q → pos 1 ≤ℤ q' → pos 1 ≤ℤ n → (p *ℤ n) ≤ℤ (a *ℤ q) → (a *ℤ q') ≤ℤ (p' *ℤ n) → (p *ℤ q') ≤ℤ (p' *ℤ q)
    crossed p q p' q' a n h h' hn f g =
        let one = follows (pos 1) q' _ _ (p *ℤ n *ℤ q') (a *ℤ q *ℤ q') (omega (arith, ints)) (omega (arith, ints)) f
        (ring (p ∷ q ∷ q' ∷ a ∷ n ∷ []) (num (pos 1) ⊗ (var 3 ⊗ var 1 ⊗ var 2 ⊝ var 0 ⊗ var 4 ⊗ var 2)) (var 2 ⊗ (var 3 ⊗ var 1 ⊝ var 0 ⊗ var 4)) tt) in
        let two = follows (pos 1) q _ _ (a *ℤ q *ℤ q') (p' *ℤ n *ℤ q) (omega (arith, ints)) (omega (arith, ints)) g
        (ring (p' ∷ q ∷ q' ∷ a ∷ n ∷ []) (num (pos 1) ⊗ (var 0 ⊗ var 4 ⊗ var 1 ⊝ var 3 ⊗ var 1 ⊗ var 2)) (var 1 ⊗ (var 0 ⊗ var 4 ⊝ var 3 ⊗ var 2)) tt) in
        let both : (p *ℤ n *ℤ q') ≤ℤ (p' *ℤ n *ℤ q) = omega (arith, ints) in
        follows n (pos 1) _ _ (p *ℤ q') (p' *ℤ q) hn (omega (arith, ints)) both
        (ring (p ∷ q ∷ p' ∷ q' ∷ n ∷ []) (var 4 ⊗ (var 2 ⊗ var 1 ⊝ var 0 ⊗ var 3)) (num (pos 1) ⊗ (var 2 ⊗ var 4 ⊗ var 1 ⊝ var 0 ⊗ var 4 ⊗ var 3)) tt)

    empty : IsLower high low → (p : Point) → IsPoint p → ¬ IsInSlab r low high p
    empty below p point in_it =
        let order = crossed low.num low.den high.num high.den (dot r p.at) p.over is_low is_high point in_it.from in_it.to in
        absurd (omega (arith, ints))
