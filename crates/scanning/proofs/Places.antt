-- Where a height stands among the special heights of a scan.
use native.Mathlib.Nat.{mul-le-mul_left}
use Rattle.std.proofs.Common.{◌*◌, ◌≤◌, nat_abs, neg_ℤ, ◌≡◌, ℕ, ◌<◌, ℤ, pos, ◌+ℤ◌, ◌*ℤ◌, ◌≤ℤ◌, ◌<ℤ◌, List, [], ◌∷◌, length, get_or, refl, sym, ◌∙◌, ap, subst, arith}
use Rattle.std.specs.Prelude.{All, AllPairs}
use Rattle.std.proofs.lemmas.Int.{ints, by_lt_z}
use Rattle.std.proofs.lemmas.List.{get_or-map, length-map}
use Rattle.fractions.specs.declared.part.TheConstants.{UNIT}
use Rattle.integers.specs.Size.{IsWithin}
use Rattle.integers.proofs.Ring.{IsWithin-mul, abs-mul}
use Rattle.integers.proofs.Order.{mul-le-mul_right, mul_left_cancel_pos}
use Rattle.integers.proofs.Solver.{Expr.{var, num, ◌⊕◌, ◌⊗◌, neg}, ring}
use Rattle.symmetry.specs.Planes.{Height as HeightOfPlane, IsHeight}
use Rattle.symmetry.specs.Scans.{IsInPeriod, IsLower, SpecialHeight, StandsAt, special_at}
use Rattle.symmetry.proofs.Heights.{at_in_period, level_above, stands_above, stands_once}
use Rattle.scanning.specs.declared.height.Height.{Height}
use Rattle.scanning.specs.declared.class.Place.TheVariants.{General, Special}
use Rattle.scanning.specs.HeightView.{heights_of_specials, special_of, specials_of}
use Rattle.scanning.specs.Levels.{IsInTwoPeriods, IsLevel}
use Rattle.scanning.specs.PlaceView.{IsPlaceOf}
use Rattle.scanning.proofs.HeightNumbers.{level_below, level_from, one_rest}

-- ---- numbers

-- how many periods a height is above another within the period
below_steps : (d k : ℤ) (n : ℕ) → pos 1 ≤ℤ d → (k *ℤ d) ≤ℤ pos n → k ≤ℤ pos n
below_steps d k n h most =
    by_lt_z (pos n) k
    (λ above.
    let one = mul-le-mul_right (pos n +ℤ pos 1) k d (omega (arith, ints)) (omega (arith, ints)) in
    let two = mul-le-mul_right (pos 1) d (pos n +ℤ pos 1) (omega (arith, ints)) h in
    let flip = ring (d ∷ pos n ∷ []) ((var 1 ⊕ num (pos 1)) ⊗ var 0) (var 0 ⊗ (var 1 ⊕ num (pos 1))) tt in
    absurd (omega (arith, ints)))
    (λ le. le)

above_steps : (d k : ℤ) (n : ℕ) → pos 1 ≤ℤ d → neg_ℤ (pos n) <ℤ (k *ℤ d +ℤ d) → neg_ℤ (pos n) ≤ℤ k
above_steps d k n h least =
    by_lt_z k (neg_ℤ (pos n))
    (λ below.
    let one = mul-le-mul_right (k +ℤ pos 1) (neg_ℤ (pos n)) d (omega (arith, ints)) (omega (arith, ints)) in
    let two = mul-le-mul_right (pos 1) d (pos n) (omega (arith, ints)) h in
    let flip = ring (d ∷ pos n ∷ []) (neg (var 1) ⊗ var 0) (neg (var 0 ⊗ var 1)) tt in
    let next = ring (d ∷ k ∷ []) ((var 1 ⊕ num (pos 1)) ⊗ var 0) (var 1 ⊗ var 0 ⊕ var 0) tt in
    absurd (omega (arith, ints)))
    (λ le. le)

quotient_size : (q x y : ℤ) (n : ℕ) → pos 1 ≤ℤ q → q *ℤ x ≡ y → IsWithin n y → IsWithin n x
quotient_size q x y n h e small =
    record { most = sizes (nat_abs q) (nat_abs x) n (omega (arith, ints)) (subst (λ m. m ≤ n) (ap nat_abs (sym e) ∙ abs-mul q x) small.most) }
  where
    sizes : (q x n : ℕ) → 1 ≤ q → q * x ≤ n → x ≤ n
    sizes q x n h le = omega (arith, mul-le-mul_left x h)

steps_within : (u p q t d k : ℤ) (n : ℕ) → pos 1 ≤ℤ q → pos 1 ≤ℤ d → q *ℤ (t +ℤ pos 2 *ℤ k *ℤ d) ≡ pos 2 *ℤ p *ℤ u → pos 0 ≤ℤ t → t <ℤ (pos 2 *ℤ d) → IsWithin n p
    → IsWithin (nat_abs u * n) k
steps_within u p q t d k n hq hd level from below small =
    let all : IsWithin (2 * n * nat_abs u) (pos 2 *ℤ p *ℤ u) = IsWithin-mul (IsWithin-mul {m = 2} {a = pos 2} two small) own in
    let x = quotient_size q (t +ℤ pos 2 *ℤ k *ℤ d) (pos 2 *ℤ p *ℤ u) (2 * n * nat_abs u) hq level all in
    let twice = ring (k ∷ d ∷ []) (num (pos 2) ⊗ var 0 ⊗ var 1) (num (pos 2) ⊗ (var 0 ⊗ var 1)) tt in
    let size = x.most in
    let most : (k *ℤ d) ≤ℤ pos (nat_abs u * n) = omega (arith, ints) in
    let least : neg_ℤ (pos (nat_abs u * n)) <ℤ (k *ℤ d +ℤ d) = omega (arith, ints) in
    let upto = below_steps d k (nat_abs u * n) hd most in
    let upfrom = above_steps d k (nat_abs u * n) hd least in
    record { most = omega (arith, ints) }
  where
    two : IsWithin 2 (pos 2)
    two = record { most = omega arith }

    own : IsWithin (nat_abs u) u
    own = record { most = omega arith }

-- ---- the heights of a scan

-- some height of a list that has one
pub item : (hs : List Height) (i : ℕ) → i < length hs → Height
item [] i h = absurd (omega arith)
item (x ∷ hs) i h = x

no_place : (d : ℤ) (special : List SpecialHeight) (s : HeightOfPlane) → ((i : ℕ) (k : ℤ) → ¬ StandsAt d special s i k) → IsPlaceOf d special s General
no_place d special s none = record {
  over = λ i k. (λ e. absurd (different i k e), λ stands. absurd (none i k stands));
  none = (λ e. none, λ _. refl);
}
  where
    different : (i : ℕ) (k : ℤ) → General ≡ Special i k → ⊥
    different i k e = cc e

module _ (d : ℤ) (hs : List Height) (in_period : All (IsInPeriod d) (heights_of_specials hs)) (rising : AllPairs IsLower (heights_of_specials hs))
    (s : HeightOfPlane) (high : IsHeight s) where
  abbrev sp : List SpecialHeight
  sp = specials_of hs

  pub within : (i : ℕ) → i < length sp → i < length hs
  within i h = let long = length-map hs special_of in omega arith

  back_within : (i : ℕ) → i < length hs → i < length sp
  back_within i h = let long = length-map hs special_of in omega arith

  pub special_is : (i : ℕ) (e : Height) → i < length hs → special_at sp i ≡ special_of (get_or hs i e)
  special_is i e h = get_or-map special_of hs i e (record { height = record { num = pos 0; den = pos 1 }; ops = [] }) h

  -- the level at an index
  abbrev level_at : (i : ℕ) → i < length sp → ℤ
  level_at i h = (get_or hs i (item hs i (within i h))).level

  has_level : (i : ℕ) (h : i < length sp) → IsLevel (special_at sp i).height (level_at i h)
  has_level i h =
      let e = item hs i (within i h) in
      let x = get_or hs i e in
      subst (λ (u : SpecialHeight). IsLevel u.height x.level) (sym (special_is i e (within i h))) x.is_level

  in_two_periods : (i : ℕ) (h : i < length sp) → IsInTwoPeriods d (level_at i h)
  in_two_periods i h =
      let u = (special_at sp i).height in
      let is = at_in_period d sp in_period rising i h in record {
        from = level_from UNIT u.num u.den (level_at i h) (omega (arith, ints)) is.positive (has_level i h) is.from;
        below = level_below UNIT u.num u.den (level_at i h) (omega (arith, ints)) is.positive (has_level i h) d is.below;
      }

  -- the level of a height that stands over it
  level_over : (i : ℕ) (k : ℤ) (stands : StandsAt d sp s i k) → IsLevel s (level_at i stands.within +ℤ pos 2 *ℤ k *ℤ d)
  level_over i k stands =
      let u = (special_at sp i).height in
      level_above UNIT u.num u.den (level_at i stands.within) (at_in_period d sp in_period rising i stands.within).positive
      (has_level i stands.within) d k s.num s.den stands.is

  pub periods_within : (n : ℕ) → IsWithin n s.num → pos 1 ≤ℤ d → (i : ℕ) (k : ℤ) → StandsAt d sp s i k → IsWithin (nat_abs UNIT * n) k
  periods_within n small positive i k stands =
      let range = in_two_periods i stands.within in
      steps_within UNIT s.num s.den (level_at i stands.within) d k n high positive (level_over i k stands) range.from range.below small

  -- a height with no level stands over none
  pub no_level_place : ((t : ℤ) → ¬ IsLevel s t) → IsPlaceOf d sp s General
  no_level_place none = no_place d sp s (λ i k stands. none _ (level_over i k stands))

  module _ (t : ℤ) (level : IsLevel s t) (rest k : ℤ) (range : IsInTwoPeriods d rest) (is : t ≡ rest +ℤ pos 2 *ℤ k *ℤ d) where
    -- what is left is no level of them
    pub no_rest_place : ((i : ℕ) (e : Height) → i < length hs → ¬ ((get_or hs i e).level ≡ rest)) → IsPlaceOf d sp s General
    no_rest_place none =
        no_place d sp s (λ i l stands.
        let t' = level_at i stands.within in
        let range' = in_two_periods i stands.within in
        let whole : t' +ℤ pos 2 *ℤ l *ℤ d ≡ t = mul_left_cancel_pos s.den _ t high (level_over i l stands ∙ sym level) in
        none i (item hs i (within i stands.within)) (within i stands.within)
        (one_rest (pos 2 *ℤ d) t' rest l k t range'.from range'.below range.from range.below (flipped t' l ∙ whole) (flipped rest k ∙ sym is)))
      where
        flipped : (t k : ℤ) → t +ℤ pos 2 *ℤ d *ℤ k ≡ t +ℤ pos 2 *ℤ k *ℤ d
        flipped t k = ring (t ∷ k ∷ d ∷ []) (var 0 ⊕ num (pos 2) ⊗ var 2 ⊗ var 1) (var 0 ⊕ num (pos 2) ⊗ var 1 ⊗ var 2) tt

    -- or of one
    pub rest_place : (i : ℕ) → i < length hs → ((e : Height) → (get_or hs i e).level ≡ rest) → IsPlaceOf d sp s (Special i k)
    rest_place i h at = record {
      over = λ j l. (
        λ e. subst (λ m. StandsAt d sp s j m) (same_k i k j l e) (subst (λ m. StandsAt d sp s m k) (same_i i k j l e) stands),
        λ there. let one = stands_once d sp in_period rising s high i j k l stands there in λ n. Special (sym one.0 n) (sym one.1 n),
      );
      none = (λ e. absurd (different i k e), λ none. absurd (none i k stands));
    }
      where
        same_i : (i : ℕ) (k : ℤ) (j : ℕ) (l : ℤ) → Special i k ≡ Special j l → i ≡ j
        same_i i k j l e = cc e

        same_k : (i : ℕ) (k : ℤ) (j : ℕ) (l : ℤ) → Special i k ≡ Special j l → k ≡ l
        same_k i k j l e = cc e

        different : (i : ℕ) (k : ℤ) → Special i k ≡ General → ⊥
        different i k e = cc e

        stands : StandsAt d sp s i k
        stands =
            let u = (special_at sp i).height in
            let there = back_within i h in
            let here : IsLevel u rest = subst (IsLevel u) (at (item hs i (within i there))) (has_level i there) in
            record {
              within = there;
              is = stands_above UNIT u.num u.den rest (at_in_period d sp in_period rising i there).positive here d k s.num s.den
                  (ap (λ z. s.den *ℤ z) (sym is) ∙ level);
            }
