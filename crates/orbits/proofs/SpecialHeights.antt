-- The special heights that the code reads, and their levels.
use Rattle.std.proofs.Common.{◌≡◌, ℕ, zero, suc, ◌-◌, ◌<◌, ◌^◌, ℤ, pos, ◌≤ℤ◌, inl, inr, List, All, length, get_or, sym, ap, subst, ◌∙◌, arith}
use Rattle.std.specs.Prelude.{AllPairs}
use Rattle.std.proofs.lemmas.Bool.{cases_lt}
use Rattle.std.proofs.lemmas.Int.{ints}
use Rattle.std.proofs.lemmas.List.{get_or-map, length-map}
use Rattle.fractions.specs.FractionOf.{fraction_of}
use Rattle.fractions.specs.declared.part.TheConstants.{UNIT}
use Rattle.integers.specs.Size.{IsWithin}
use Rattle.symmetry.specs.Planes.{Height as HeightOfPlane}
use Rattle.symmetry.specs.Orbits.{height_at}
use Rattle.symmetry.specs.Scans.{IsInPeriod, IsLower, SpecialHeight}
use Rattle.plane_lattice.specs.Bounds.{largest_period}
use Rattle.scanning.specs.HeightView.{heights_of_specials, special_of, specials_of}
use Rattle.scanning.specs.Levels.{IsLevel}
use Rattle.scanning.specs.declared.height.Height.{Height}
use Rattle.scanning.proofs.HeightNumbers.{level_below, level_from, level_lower}
use Rattle.scanning.proofs.Places.{item}
use Rattle.orbits.specs.LevelView.{level_at, level_of}

module _ (hs : List Height) where
  pub length-heights : length (heights_of_specials hs) ≡ length hs
  length-heights = length-map (specials_of hs) (λ (h : SpecialHeight). h.height) ∙ length-map hs special_of

  abbrev at : (i : ℕ) → HeightOfPlane
  at i = height_at (heights_of_specials hs) i

  pub level_is : (i : ℕ) (d : Height) → i < length hs → level_at hs i ≡ (get_or hs i d).level
  level_is i d h = get_or-map level_of hs i d (pos 0) h

  height_is : (i : ℕ) (d : Height) → i < length hs → at i ≡ fraction_of (get_or hs i d).s
  height_is i d h =
      get_or-map (λ (h : SpecialHeight). h.height) (specials_of hs) i (special_of d) (record { num = pos 0; den = pos 1 }) (subst (λ n. i < n) (sym (length-map hs special_of)) h)
      ∙ ap (λ (h : SpecialHeight). h.height) (get_or-map special_of hs i d (special_of d) h)

  -- the level of the height at the place
  pub has_level : (i : ℕ) → i < length hs → IsLevel (at i) (level_at hs i)
  has_level i h =
      let d = item hs i h in
      subst (λ s. IsLevel s (level_at hs i)) (sym (height_is i d h))
      (subst (IsLevel (fraction_of (get_or hs i d).s)) (sym (level_is i d h)) (get_or hs i d).is_level)

  -- ---- so few there are

  module _ (d : ℤ) (inside : All (IsInPeriod d) (heights_of_specials hs)) (rising : AllPairs IsLower (heights_of_specials hs)) where
    in_period : (i : ℕ) → i < length hs → IsInPeriod d (at i)
    in_period i h = inside i (record { num = pos 0; den = pos 1 }) (subst (λ n. i < n) (sym length-heights) h)

    level_above_place : (i : ℕ) → i < length hs → pos i ≤ℤ level_at hs i
    level_above_place zero h =
        let is = in_period zero h in
        level_from UNIT (at zero).num (at zero).den (level_at hs zero) (omega (arith, ints)) is.positive (has_level zero h) is.from
    level_above_place (suc i) h =
        let before : i < length hs = omega arith in
        let lower = rising i (suc i) (record { num = pos 0; den = pos 1 }) (omega arith) (subst (λ n. suc i < n) (sym length-heights) h) in
        let step = level_lower UNIT (at i).num (at i).den (level_at hs i) (omega (arith, ints)) (in_period i before).positive (has_level i before)
        (at (suc i)).num (at (suc i)).den (level_at hs (suc i)) (in_period (suc i) h).positive (has_level (suc i) h) lower in
        omega (arith, ints, level_above_place i before, step)

    pub few_heights : IsWithin largest_period d → length hs < 2 ^ 32
    few_heights small = elim (cases_lt (length hs) (2 ^ 32)) [
      | inl h ↦ h
      | inr h ↦
          let i : ℕ = 2 ^ 32 - 1 in
          let last : i < length hs = omega (arith, h) in
          let is = in_period i last in
          let below = level_below UNIT (at i).num (at i).den (level_at hs i) (omega (arith, ints)) is.positive (has_level i last) d is.below in
          absurd (omega (arith, ints, level_above_place i last, below, small.most))
    ]
