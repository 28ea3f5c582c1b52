-- The number of planes in the orbit of a general height.
use Rattle.std.proofs.Common.{◌≡◌, ◌↔◌, ℕ, ◌<◌, ℤ, pos, negsuc, ◌+ℤ◌, ◌-ℤ◌, ◌*ℤ◌, ◌≤ℤ◌, ◌<ℤ◌, inl, inr, neg_ℤ, sym, ◌∙◌, ap, subst, arith, All, AllPairs, Any, List, [], ◌∷◌, length, get_or, map}
use Rattle.std.specs.Prelude.{Contains}
use Rattle.std.proofs.lemmas.Int.{ints}
use Rattle.std.proofs.lemmas.List.{get_or-map, length-map}
use Rattle.fractions.specs.declared.part.TheConstants.{UNIT}
use Rattle.fractions.specs.Fraction.{SameFraction}
use Rattle.fractions.specs.LowestTerms.{lowest_terms}
use Rattle.integers.proofs.Order.{mul_left_cancel_pos, small_multiple}
use Rattle.integers.proofs.Solver.{Expr.{var, num, neg, ◌⊕◌, ◌⊝◌, ◌⊗◌}, linear, given}
use Rattle.symmetry.specs.Vectors.{Vector, dot}
use Rattle.symmetry.specs.Motions.{Motion}
use Rattle.symmetry.specs.Planes.{Height, IsHeight, IsCoprime, MovesRow}
use Rattle.symmetry.specs.Groups.{Listing, IsGroup, IsMember}
use Rattle.symmetry.specs.Frames.{Basis, IsFrame, IsSpecial}
use Rattle.symmetry.specs.Scans.{IsInPeriod}
use Rattle.symmetry.specs.Orbits.{AreInOneOrbit, ListsOrbit, IsPlaneCount}
use Rattle.symmetry.specs.HeightMotions.{AreHeightMotions, HeightMotion, IsSign, MovesPlanes, TakesHeight}
use Rattle.symmetry.proofs.HeightsInPeriod.{height_in_period, in_period, one_rest, only_in_period, periods_below, rest, same_rest}
use Rattle.symmetry.proofs.PlaneOrbits.{orbit_by_listed, row_by_listed, special_by_two}

-- ---- numbers

-- with the periods that lie below taken off
into_period : (e p u q w t b n d x y : ℤ) → w ≡ t +ℤ n *ℤ d → x *ℤ (q *ℤ u) ≡ (e *ℤ p *ℤ u +ℤ q *ℤ t -ℤ d *ℤ q *ℤ b) *ℤ y
    → (e *ℤ p *ℤ u +ℤ q *ℤ (w +ℤ neg_ℤ (n +ℤ b) *ℤ d)) *ℤ y ≡ x *ℤ (u *ℤ q)
into_period e p u q w t b n d x y f h =
    let v = var in
    linear (e ∷ p ∷ u ∷ q ∷ w ∷ t ∷ b ∷ n ∷ d ∷ x ∷ y ∷ [])
    ((v 0 ⊗ v 1 ⊗ v 2 ⊕ v 3 ⊗ (v 4 ⊕ neg (v 7 ⊕ v 6) ⊗ v 8)) ⊗ v 10) (v 9 ⊗ (v 2 ⊗ v 3))
    (given (v 3 ⊗ v 10) (v 4) (v 5 ⊕ v 7 ⊗ v 8)
    ∷ given (num (negsuc 0)) (v 9 ⊗ (v 3 ⊗ v 2)) ((v 0 ⊗ v 1 ⊗ v 2 ⊕ v 3 ⊗ v 5 ⊝ v 8 ⊗ v 3 ⊗ v 6) ⊗ v 10) ∷ [])
    tt (f, (h, tt))

-- and with the periods put together
from_period : (e p u q w t n k d x y : ℤ) → w ≡ t +ℤ n *ℤ d → (e *ℤ p *ℤ u +ℤ q *ℤ (w +ℤ k *ℤ d)) *ℤ y ≡ x *ℤ (u *ℤ q)
    → (e *ℤ p *ℤ u +ℤ q *ℤ t +ℤ d *ℤ q *ℤ (n +ℤ k)) *ℤ y ≡ x *ℤ (u *ℤ q)
from_period e p u q w t n k d x y f h =
    let v = var in
    linear (e ∷ p ∷ u ∷ q ∷ w ∷ t ∷ n ∷ k ∷ d ∷ x ∷ y ∷ [])
    ((v 0 ⊗ v 1 ⊗ v 2 ⊕ v 3 ⊗ v 5 ⊕ v 8 ⊗ v 3 ⊗ (v 6 ⊕ v 7)) ⊗ v 10) (v 9 ⊗ (v 2 ⊗ v 3))
    (given (neg (v 3 ⊗ v 10)) (v 4) (v 5 ⊕ v 6 ⊗ v 8)
    ∷ given (num (pos 1)) ((v 0 ⊗ v 1 ⊗ v 2 ⊕ v 3 ⊗ (v 4 ⊕ v 7 ⊗ v 8)) ⊗ v 10) (v 9 ⊗ (v 2 ⊗ v 3)) ∷ [])
    tt (f, (h, tt))

-- two shifts in the period that differ by periods are one
one_shift : (x q t t' d b b' : ℤ) → pos 1 ≤ℤ q → pos 0 ≤ℤ t → t <ℤ d → pos 0 ≤ℤ t' → t' <ℤ d
    → x +ℤ q *ℤ t -ℤ d *ℤ q *ℤ b ≡ x +ℤ q *ℤ t' -ℤ d *ℤ q *ℤ b' → t ≡ t'
one_shift x q t t' d b b' h from below from' below' e =
    let v = var in
    let apart : t -ℤ t' ≡ d *ℤ (b -ℤ b') =
    mul_left_cancel_pos q (t -ℤ t') (d *ℤ (b -ℤ b')) h
    (linear (x ∷ q ∷ t ∷ t' ∷ d ∷ b ∷ b' ∷ []) (v 1 ⊗ (v 2 ⊝ v 3)) (v 1 ⊗ (v 4 ⊗ (v 5 ⊝ v 6)))
    (given (num (pos 1)) (v 0 ⊕ v 1 ⊗ v 2 ⊝ v 4 ⊗ v 1 ⊗ v 5) (v 0 ⊕ v 1 ⊗ v 3 ⊝ v 4 ⊗ v 1 ⊗ v 6) ∷ []) tt (e, tt)) in
    let none : b -ℤ b' ≡ pos 0 = small_multiple d (b -ℤ b') (omega (arith, ints)) (omega (arith, ints)) in
    linear (t ∷ t' ∷ d ∷ b ∷ b' ∷ []) (v 0) (v 1) (given (num (pos 1)) (v 0 ⊝ v 1) (v 2 ⊗ (v 3 ⊝ v 4)) ∷ given (v 2) (v 3 ⊝ v 4) (num (pos 0)) ∷ []) tt (apart, (none, tt))

-- w + k d is t + (n + k) d
regrouped : (w t n k d : ℤ) → w ≡ t +ℤ n *ℤ d → w +ℤ k *ℤ d ≡ t +ℤ (n +ℤ k) *ℤ d
regrouped w t n k d e =
    let v = var in
    linear (w ∷ t ∷ n ∷ k ∷ d ∷ []) (v 0 ⊕ v 3 ⊗ v 4) (v 1 ⊕ (v 2 ⊕ v 3) ⊗ v 4) (given (num (pos 1)) (v 0) (v 1 ⊕ v 2 ⊗ v 4) ∷ []) tt (e, tt)

-- and t + k d is w + (k - n) d
taken_off : (w t n k d : ℤ) → w ≡ t +ℤ n *ℤ d → t +ℤ k *ℤ d ≡ w +ℤ (k -ℤ n) *ℤ d
taken_off w t n k d e =
    let v = var in
    linear (w ∷ t ∷ n ∷ k ∷ d ∷ []) (v 1 ⊕ v 3 ⊗ v 4) (v 0 ⊕ (v 3 ⊝ v 2) ⊗ v 4) (given (num (negsuc 0)) (v 0) (v 1 ⊕ v 2 ⊗ v 4) ∷ []) tt (e, tt)

-- ---- the orbit of a general height

module _ (g : Listing) (r : Vector) (f : Basis) (frame : IsFrame g r f) (group : IsGroup g) (coprime : IsCoprime r)
    (hs : List HeightMotion) (are : AreHeightMotions g r (dot r f.tau) hs) where
  abbrev d : ℤ
  d = dot r f.tau

  above : pos 1 ≤ℤ d
  above = omega (arith, ints, frame.tau_above)

  -- orbits, by the motions of the planes
  pub orbit_by_motions : (s t : Height) → IsHeight s → IsHeight t → AreInOneOrbit g r s t ↔ Any (TakesHeight d s t) hs
  orbit_by_motions s t high high' =
      let by = orbit_by_listed g r f frame group coprime s t high high' in (
        λ o.
            let (n, e, k, listed, sign, row, moves) = by.0 o in
            let (i, h, within, is, both) = are.every n e listed sign row in (
              i,
              h,
              within,
              is,
              (
                both.1.periods +ℤ k,
                subst (λ x. (x *ℤ s.num *ℤ UNIT +ℤ s.den *ℤ (h.shift +ℤ (both.1.periods +ℤ k) *ℤ d)) *ℤ t.den ≡ t.num *ℤ (UNIT *ℤ s.den)) (sym both.0)
                    (subst (λ x. (e *ℤ s.num *ℤ UNIT +ℤ s.den *ℤ x) *ℤ t.den ≡ t.num *ℤ (UNIT *ℤ s.den)) (regrouped (dot r n.translation) h.shift both.1.periods k d both.1.shift) moves),
              ),
            ),
        λ (i, h, within, is, both).
            let (k, takes) = both in
            let (n, listed, moves) = subst (λ h. (m : Motion) × Contains g.ops m × MovesPlanes r d m h) is (are.listed i h within) in
            by.1 (
              n,
              h.sign,
              k -ℤ moves.periods,
              listed,
              subst (λ (h : HeightMotion). IsSign h.sign) is (are.signs i h within),
              moves.row,
              subst (λ x. (h.sign *ℤ s.num *ℤ UNIT +ℤ s.den *ℤ x) *ℤ t.den ≡ t.num *ℤ (UNIT *ℤ s.den)) (taken_off (dot r n.translation) h.shift moves.periods k d moves.shift) takes,
            ),
      )

  module _ (s : Height) (high : IsHeight s) where
    abbrev goes_to : HeightMotion → Height
    goes_to = height_in_period d above s high

    -- a member with this sign takes the height there
    member_to : (h : HeightMotion) (m : Motion) → Contains g.ops m → MovesPlanes r d m h → (n : Motion) × IsMember g n × MovesRow r s (goes_to h) h.sign n
    member_to h m listed moves =
        let b = periods_below d above s high h in
        row_by_listed g r f frame group coprime s (goes_to h) m h.sign (neg_ℤ (moves.periods +ℤ b)) listed moves.row
        (into_period h.sign s.num UNIT s.den (dot r m.translation) h.shift b moves.periods d (goes_to h).num (goes_to h).den moves.shift (same_rest d above s high h))

    in_orbit : (h : HeightMotion) → IsSign h.sign → (m : Motion) → Contains g.ops m → MovesPlanes r d m h → AreInOneOrbit g r s (goes_to h)
    in_orbit h sign m listed moves =
        let b = periods_below d above s high h in
        (orbit_by_listed g r f frame group coprime s (goes_to h) high (in_period d above s high h).positive).1 (
          m,
          h.sign,
          neg_ℤ (moves.periods +ℤ b),
          listed,
          sign,
          moves.row,
          into_period h.sign s.num UNIT s.den (dot r m.translation) h.shift b moves.periods d (goes_to h).num (goes_to h).den moves.shift (same_rest d above s high h),
        )

    abbrev heights : List Height
    heights = map goes_to hs

    -- a motion that no list has
    abbrev none : HeightMotion
    none = record { sign = pos 1; shift = pos 0 }

    at_place : (i : ℕ) (t : Height) → i < length heights → (i < length hs) × (get_or heights i t ≡ goes_to (get_or hs i none))
    at_place i t within =
        let here : i < length hs = subst (λ n. i < n) (length-map hs goes_to) within in (here, get_or-map goes_to hs i none t here)

    each_listed : All (λ t. IsInPeriod d t × AreInOneOrbit g r s t) heights
    each_listed i t within =
        let (here, is) = at_place i t within in
        let h = get_or hs i none in
        let (m, listed, moves) = are.listed i none here in
        subst (λ t. IsInPeriod d t × AreInOneOrbit g r s t) (sym is) (in_period d above s high h, in_orbit h (are.signs i none here) m listed moves)

    all_listed : (t : Height) → IsInPeriod d t → AreInOneOrbit g r s t → Any (SameFraction t) heights
    all_listed t inside orbit =
        let (n, e, k, listed, sign, row, moves) = (orbit_by_listed g r f frame group coprime s t high inside.positive).0 orbit in
        let (i, h, within, is, both) = are.every n e listed sign row in
        let is_sign = both.0 in
        let by = both.1 in
        let same : SameFraction t (goes_to h) =
        only_in_period d above s high h t (by.periods +ℤ k) inside
        (from_period h.sign s.num UNIT s.den (dot r n.translation) h.shift by.periods k d t.num t.den by.shift
        (subst (λ x. (x *ℤ s.num *ℤ UNIT +ℤ s.den *ℤ (dot r n.translation +ℤ k *ℤ d)) *ℤ t.den ≡ t.num *ℤ (UNIT *ℤ s.den)) (sym is_sign) moves)) in
        (i, goes_to h, subst (λ n. i < n) (sym (length-map hs goes_to)) within, get_or-map goes_to hs i h (goes_to h) within ∙ ap goes_to is, same)

    module _ (general : ¬ IsSpecial g r s) where
      abbrev AreMoves : HeightMotion → Type 0
      AreMoves h = (m : Motion) × Contains g.ops m × MovesPlanes r d m h

      -- one sign: the shifts differ by periods
      one_sign : (h k : HeightMotion) → h.sign ≡ k.sign → pos 0 ≤ℤ h.shift → h.shift <ℤ d → pos 0 ≤ℤ k.shift → k.shift <ℤ d
          → rest d above s high h ≡ rest d above s high k → h ≡ k
      one_sign h k p from below from' below' e =
          let b = periods_below d above s high h in
          let b' = periods_below d above s high k in
          let q : h.shift ≡ k.shift =
          one_shift (h.sign *ℤ s.num *ℤ UNIT) s.den h.shift k.shift d b b' high from below from' below'
          (e ∙ ap (λ x. x *ℤ s.num *ℤ UNIT +ℤ s.den *ℤ k.shift -ℤ d *ℤ s.den *ℤ b') (sym p)) in
          λ i. record { sign = p i; shift = q i }

      -- two signs: the height is special
      two_signs : (h k : HeightMotion) → h.sign ≡ pos 1 → k.sign ≡ negsuc 0 → AreMoves h → AreMoves k
          → rest d above s high h ≡ rest d above s high k → h ≡ k
      two_signs h k p q (m, listed, moves) (n, listed', moves') e =
          let (m', member, by) = member_to h m listed moves in
          let (n', member', by') = member_to k n listed' moves' in
          let same : goes_to k ≡ goes_to h = ap (λ x. lowest_terms x (s.den *ℤ UNIT)) (sym e) in
          absurd (general (special_by_two g r group coprime s (goes_to h) high (in_period d above s high h).positive m' n' member member'
          (subst (λ x. MovesRow r s (goes_to h) x m') p by)
          (subst (λ x. MovesRow r s (goes_to h) x n') q (subst (λ u. MovesRow r s u k.sign n') same by'))))

      one_motion : (h k : HeightMotion) → IsSign h.sign → IsSign k.sign → pos 0 ≤ℤ h.shift → h.shift <ℤ d → pos 0 ≤ℤ k.shift → k.shift <ℤ d
          → AreMoves h → AreMoves k → rest d above s high h ≡ rest d above s high k → h ≡ k
      one_motion h k (inl p) (inl q) from below from' below' _ _ e = one_sign h k (p ∙ sym q) from below from' below' e
      one_motion h k (inr p) (inr q) from below from' below' _ _ e = one_sign h k (p ∙ sym q) from below from' below' e
      one_motion h k (inl p) (inr q) _ _ _ _ a b e = two_signs h k p q a b e
      one_motion h k (inr p) (inl q) _ _ _ _ a b e = sym (two_signs k h q p b a (sym e))

      heights_apart : AllPairs (λ t u. ¬ SameFraction t u) heights
      heights_apart i j t less within same =
          let (there, is) = at_place j t within in
          let (here, is') = at_place i t (omega (arith, less, within)) in
          let h = get_or hs i none in
          let k = get_or hs j none in
          are.apart i j none less there
          (one_motion h k (are.signs i none here) (are.signs j none there) (are.from i none here) (are.below i none here) (are.from j none there)
          (are.below j none there) (are.listed i none here) (are.listed j none there)
          (one_rest d above s high h k (subst (λ u. SameFraction (goes_to h) u) is (subst (λ u. SameFraction u (get_or heights j t)) is' same))))

      lists_orbit : ListsOrbit g r d s heights
      lists_orbit = record { each = each_listed; apart = heights_apart; whole = all_listed }

  pub plane_count : IsPlaneCount g r d (length hs)
  plane_count s high general = (heights s high, lists_orbit s high general, length-map hs (height_in_period d above s high))
