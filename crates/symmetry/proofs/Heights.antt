-- Heights that stand whole periods above others.
use native.Mathlib.Decide.{dec_lt}
use Rattle.std.proofs.Common.{◌≡◌, ℕ, zero, suc, ◌<◌, ℤ, pos, negsuc, ◌+ℤ◌, ◌-ℤ◌, ◌*ℤ◌, ◌≤ℤ◌, ◌<ℤ◌, List, [], ◌∷◌, length, get_or, refl, sym, ◌∙◌, ap, subst, arith}
use Rattle.std.specs.Prelude.{All, AllPairs}
use Rattle.std.proofs.lemmas.Int.{ints}
use Rattle.std.proofs.lemmas.List.{length-map}
use lib.IntN.{*ℤ_comm}
use Rattle.fractions.specs.Fraction.{SameFraction}
use Rattle.fractions.specs.declared.part.TheConstants.{UNIT}
use Rattle.integers.proofs.Order.{mul-le-mul_right, mul_left_cancel_pos, small_multiple, zero-le-mul}
use Rattle.integers.proofs.Ring.{mul_zero}
use Rattle.integers.proofs.Solver.{Expr.{var, num, ◌⊕◌, ◌⊝◌, ◌⊗◌, neg}, given, linear, ring}
use Rattle.symmetry.specs.Planes.{Height, IsHeight}
use Rattle.symmetry.specs.Scans.{IsInPeriod, IsLower, SpecialHeight, StandsAt, heights_of, raised_height, special_at}

-- ---- numbers

-- p/q is k periods above p'/q', and l periods above p''/q''
between : (u d p q p' q' k p'' q'' l : ℤ) → pos 1 ≤ℤ q → p *ℤ (q' *ℤ u) ≡ (p' *ℤ u +ℤ k *ℤ d *ℤ q') *ℤ q → p *ℤ (q'' *ℤ u) ≡ (p'' *ℤ u +ℤ l *ℤ d *ℤ q'') *ℤ q
    → d *ℤ q' *ℤ q'' *ℤ (k -ℤ l) ≡ p'' *ℤ q' *ℤ u -ℤ p' *ℤ q'' *ℤ u
between u d p q p' q' k p'' q'' l h e e' =
    mul_left_cancel_pos q _ _ h
    (linear (u ∷ d ∷ p ∷ q ∷ p' ∷ q' ∷ k ∷ p'' ∷ q'' ∷ l ∷ [])
    (var 3 ⊗ (var 1 ⊗ var 5 ⊗ var 8 ⊗ (var 6 ⊝ var 9)))
    (var 3 ⊗ (var 7 ⊗ var 5 ⊗ var 0 ⊝ var 4 ⊗ var 8 ⊗ var 0))
    (given (neg (var 8)) (var 2 ⊗ (var 5 ⊗ var 0)) ((var 4 ⊗ var 0 ⊕ var 6 ⊗ var 1 ⊗ var 5) ⊗ var 3)
    ∷ given (var 5) (var 2 ⊗ (var 8 ⊗ var 0)) ((var 7 ⊗ var 0 ⊕ var 9 ⊗ var 1 ⊗ var 8) ⊗ var 3) ∷ []) tt (e, (e', tt)))

-- a height from 0 to below d, with the denominator of another
scaled_below : (u d p q q' : ℤ) → pos 1 ≤ℤ q' → (p *ℤ u) <ℤ (d *ℤ q) → (p *ℤ q' *ℤ u) <ℤ (d *ℤ q *ℤ q')
scaled_below u d p q q' h below =
    let le = mul-le-mul_right (p *ℤ u +ℤ pos 1) (d *ℤ q) q' (omega (arith, ints)) (omega (arith, ints)) in
    let left = ring (u ∷ p ∷ q' ∷ []) ((var 1 ⊗ var 0 ⊕ num (pos 1)) ⊗ var 2) (var 1 ⊗ var 2 ⊗ var 0 ⊕ var 2) tt in
    omega (arith, ints)

scaled_from : (u p q' : ℤ) → pos 1 ≤ℤ u → pos 1 ≤ℤ q' → pos 0 ≤ℤ p → pos 0 ≤ℤ (p *ℤ q' *ℤ u)
scaled_from u p q' hu h from = zero-le-mul (p *ℤ q') u (zero-le-mul p q' from (omega (arith, ints))) (omega (arith, ints))

record Once (p' q' k p'' q'' l : ℤ) : Type 0 where
  periods : k ≡ l
  height : p' *ℤ q'' ≡ p'' *ℤ q'

-- so both are one height and one number of periods
once : (u d p q p' q' k p'' q'' l : ℤ) → pos 1 ≤ℤ u → pos 1 ≤ℤ q → pos 1 ≤ℤ q' → pos 1 ≤ℤ q''
    → pos 0 ≤ℤ p' → (p' *ℤ u) <ℤ (d *ℤ q') → pos 0 ≤ℤ p'' → (p'' *ℤ u) <ℤ (d *ℤ q'')
    → p *ℤ (q' *ℤ u) ≡ (p' *ℤ u +ℤ k *ℤ d *ℤ q') *ℤ q → p *ℤ (q'' *ℤ u) ≡ (p'' *ℤ u +ℤ l *ℤ d *ℤ q'') *ℤ q
    → Once p' q' k p'' q'' l
once u d p q p' q' k p'' q'' l hu h h' h'' from' below' from'' below'' e e' =
    let apart = between u d p q p' q' k p'' q'' l h e e' in
    let least' = scaled_from u p' q'' hu h'' from' in
    let most' = scaled_below u d p' q' q'' h'' below' in
    let least'' = scaled_from u p'' q' hu h' from'' in
    let most'' = subst (λ z. (p'' *ℤ q' *ℤ u) <ℤ z) (ring (d ∷ q' ∷ q'' ∷ []) (var 0 ⊗ var 2 ⊗ var 1) (var 0 ⊗ var 1 ⊗ var 2) tt) (scaled_below u d p'' q'' q' h' below'') in
    let none : k -ℤ l ≡ pos 0 = small_multiple (d *ℤ q' *ℤ q'') (k -ℤ l) (omega (arith, ints)) (omega (arith, ints)) in
    let zero : d *ℤ q' *ℤ q'' *ℤ (k -ℤ l) ≡ pos 0 = ap (λ z. d *ℤ q' *ℤ q'' *ℤ z) none ∙ mul_zero (d *ℤ q' *ℤ q'') in record {
      periods = omega (arith, ints);
      height = mul_left_cancel_pos u _ _ hu (*ℤ_comm u (p' *ℤ q'') ∙ omega (arith, ints) ∙ sym (*ℤ_comm u (p'' *ℤ q')));
    }

-- a height that is k periods above p/q, the half of t parts, is the half of t and 2 k periods, and the other way round
module _ (u p q t : ℤ) (h : pos 1 ≤ℤ q) (level : q *ℤ t ≡ pos 2 *ℤ p *ℤ u) (d k P Q : ℤ) where
  pub level_above : P *ℤ (q *ℤ u) ≡ (p *ℤ u +ℤ k *ℤ d *ℤ q) *ℤ Q → Q *ℤ (t +ℤ pos 2 *ℤ k *ℤ d) ≡ pos 2 *ℤ P *ℤ u
  level_above is =
      mul_left_cancel_pos q _ _ h
      (linear (u ∷ p ∷ q ∷ t ∷ d ∷ k ∷ P ∷ Q ∷ [])
      (var 2 ⊗ (var 7 ⊗ (var 3 ⊕ num (pos 2) ⊗ var 5 ⊗ var 4))) (var 2 ⊗ (num (pos 2) ⊗ var 6 ⊗ var 0))
      (given (var 7) (var 2 ⊗ var 3) (num (pos 2) ⊗ var 1 ⊗ var 0)
      ∷ given (num (negsuc 1)) (var 6 ⊗ (var 2 ⊗ var 0)) ((var 1 ⊗ var 0 ⊕ var 5 ⊗ var 4 ⊗ var 2) ⊗ var 7) ∷ []) tt (level, (is, tt)))

  pub stands_above : Q *ℤ (t +ℤ pos 2 *ℤ k *ℤ d) ≡ pos 2 *ℤ P *ℤ u → P *ℤ (q *ℤ u) ≡ (p *ℤ u +ℤ k *ℤ d *ℤ q) *ℤ Q
  stands_above is =
      mul_left_cancel_pos (pos 2) _ _ (omega (arith, ints))
      (linear (u ∷ p ∷ q ∷ t ∷ d ∷ k ∷ P ∷ Q ∷ [])
      (num (pos 2) ⊗ (var 6 ⊗ (var 2 ⊗ var 0))) (num (pos 2) ⊗ ((var 1 ⊗ var 0 ⊕ var 5 ⊗ var 4 ⊗ var 2) ⊗ var 7))
      (given (var 7) (var 2 ⊗ var 3) (num (pos 2) ⊗ var 1 ⊗ var 0)
      ∷ given (num (negsuc 0) ⊗ var 2) (var 7 ⊗ (var 3 ⊕ num (pos 2) ⊗ var 5 ⊗ var 4)) (num (pos 2) ⊗ var 6 ⊗ var 0) ∷ []) tt (level, (is, tt)))

-- and below a height that is k periods above it
pub raised_back : (d k : ℤ) (s s' : Height) → SameFraction s' (raised_height d k s) → SameFraction s (raised_height d (negsuc 0 *ℤ k) s')
raised_back d k s s' is =
    linear (UNIT ∷ d ∷ k ∷ s.num ∷ s.den ∷ s'.num ∷ s'.den ∷ [])
    (var 3 ⊗ (var 6 ⊗ var 0)) ((var 5 ⊗ var 0 ⊕ num (negsuc 0) ⊗ var 2 ⊗ var 1 ⊗ var 6) ⊗ var 4)
    (given (num (negsuc 0)) (var 5 ⊗ (var 4 ⊗ var 0)) ((var 3 ⊗ var 0 ⊕ var 2 ⊗ var 1 ⊗ var 4) ⊗ var 6) ∷ []) tt (is, tt)

-- ---- the listed heights

pub get_or-heights : (special : List SpecialHeight) (i : ℕ) (d : Height) → i < length special → get_or (heights_of special) i d ≡ (special_at special i).height
get_or-heights [] i d h = absurd (omega arith)
get_or-heights (s ∷ special) zero d h = refl
get_or-heights (s ∷ special) (suc i) d h = get_or-heights special i d (omega arith)

module _ (d : ℤ) (special : List SpecialHeight) (in_period : All (IsInPeriod d) (heights_of special)) (rising : AllPairs IsLower (heights_of special)) where
  within_heights : (i : ℕ) → i < length special → i < length (heights_of special)
  within_heights i h = let long = length-map special (λ (s : SpecialHeight). s.height) in omega arith

  pub at_in_period : (i : ℕ) → i < length special → IsInPeriod d (special_at special i).height
  at_in_period i h =
      let s = (special_at special i).height in
      subst (IsInPeriod d) (get_or-heights special i s h) (in_period i s (within_heights i h))

  not_equal : (i j : ℕ) → i < j → j < length special
      → (special_at special i).height.num *ℤ (special_at special j).height.den ≡ (special_at special j).height.num *ℤ (special_at special i).height.den → ⊥
  not_equal i j l h e =
      let s = (special_at special i).height in
      let lower : IsLower s (special_at special j).height =
      subst (λ x. IsLower x (special_at special j).height) (get_or-heights special i s (omega arith))
      (subst (λ x. IsLower (get_or (heights_of special) i s) x) (get_or-heights special j s h) (rising i j s l (within_heights j h))) in
      absurd (omega (arith, ints, lower))

  -- a height stands over at most one of them, by one number of periods
  pub stands_once : (s : Height) → IsHeight s → (i j : ℕ) (k l : ℤ) → StandsAt d special s i k → StandsAt d special s j l → (j ≡ i) × (l ≡ k)
  stands_once s high i j k l here there =
      let t = (special_at special i).height in
      let u = (special_at special j).height in
      let t_in = at_in_period i here.within in
      let u_in = at_in_period j there.within in
      let one : Once t.num t.den k u.num u.den l =
      once UNIT d s.num s.den t.num t.den k u.num u.den l (omega (arith, ints)) high t_in.positive u_in.positive t_in.from t_in.below u_in.from u_in.below here.is there.is in (
        elim (dec_lt i j) [
          | yes h ↦ absurd (not_equal i j h there.within one.height)
          | no h ↦ elim (dec_lt j i) [ yes h' ↦ absurd (not_equal j i h' here.within (sym one.height)) | no h' ↦ omega arith ]
        ],
        sym one.periods,
      )
