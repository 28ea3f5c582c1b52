-- The special heights of a report from 0 to below 1 are few.
use Rattle.std.proofs.Common.{◌≡◌, ℕ, zero, suc, ◌*◌, ◌<◌, ◌≤◌, ℤ, pos, ◌*ℤ◌, ◌≤ℤ◌, List, All, length, get_or, inl, inr, arith}
use Rattle.std.specs.Prelude.{AllPairs, int_div}
use Rattle.std.proofs.lemmas.Bool.{cases_lt}
use Rattle.std.proofs.lemmas.Int.{ints}
use Rattle.fractions.specs.declared.part.TheConstants.{UNIT}
use Rattle.symmetry.specs.Planes.{Height}
use Rattle.symmetry.specs.Scans.{IsInPeriod, IsLower}
use Rattle.scanning.specs.HeightView.{IsInHalves}
use Rattle.scanning.specs.Levels.{IsLevel}
use Rattle.scanning.proofs.HeightNumbers.{level_below, level_from, level_lower}
use Rattle.report.proofs.SmallSizes.{half_parts}

module _ (hs : List Height) (d : ℤ) (inside : All (IsInPeriod d) hs) (halves : All IsInHalves hs) (rising : AllPairs IsLower hs) where
  abbrev origin : Height
  origin = record { num = pos 0; den = pos 1 }

  abbrev at : (i : ℕ) → Height
  at i = get_or hs i origin

  -- twice the height at i, in parts
  level : ℕ → ℤ
  level i = int_div (pos 2 *ℤ (at i).num *ℤ UNIT) (at i).den

  has_level : (i : ℕ) → i < length hs → IsLevel (at i) (level i)
  unfolding level
  has_level i h = half_parts (at i) (halves i origin h)

  above_place : (i : ℕ) → i < length hs → pos i ≤ℤ level i
  above_place zero h =
      let is = inside zero origin h in
      level_from UNIT (at zero).num (at zero).den (level zero) (omega (arith, ints)) is.positive (has_level zero h) is.from
  above_place (suc i) h =
      let before : i < length hs = omega arith in
      let lower = rising i (suc i) origin (omega arith) h in
      let step = level_lower UNIT (at i).num (at i).den (level i) (omega (arith, ints)) (inside i origin before).positive (has_level i before)
      (at (suc i)).num (at (suc i)).den (level (suc i)) (inside (suc i) origin h).positive (has_level (suc i) h) lower in
      omega (arith, ints, above_place i before, step)

  pub few_heights : (n : ℕ) → d ≡ pos n → length hs ≤ 2 * n
  few_heights n e = elim (cases_lt (2 * n) (length hs)) [
    | inl h ↦
        let is = inside (2 * n) origin h in
        let below = level_below UNIT (at (2 * n)).num (at (2 * n)).den (level (2 * n)) (omega (arith, ints)) is.positive (has_level (2 * n) h) d is.below in
        absurd (omega (arith, ints, above_place (2 * n) h, below, e))
    | inr h ↦ h
  ]
