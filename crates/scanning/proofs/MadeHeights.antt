-- Special heights made of levels: in lowest terms, within the period, rising and in half parts.
use Rattle.std.proofs.Common.{ℕ, ◌<◌, ℤ, pos, negsuc, ◌*ℤ◌, List, [], ◌∷◌, length, get_or, sym, ◌∙◌, ap, arith}
use Rattle.std.specs.Prelude.{All, AllPairs, int_rem}
use Rattle.std.proofs.lemmas.Int.{ints}
use Rattle.std.proofs.lemmas.List.Elements.{All-map}
use Rattle.std.proofs.lemmas.Slice.Zip.{AllZip-long}
use Rattle.fractions.specs.Fraction.{Fraction}
use Rattle.fractions.specs.FractionOf.{fraction_of}
use Rattle.fractions.specs.LowestTerms.{IsLowestForm}
use Rattle.fractions.specs.declared.part.TheConstants.{UNIT}
use Rattle.fractions.proofs.Multiples.{rem-multiple}
use Rattle.integers.proofs.Solver.{Expr.{var, num, ◌⊗◌}, given, linear}
use Rattle.symmetry.specs.Motions.{Motion}
use Rattle.symmetry.specs.Planes.{Height as HeightOfPlane}
use Rattle.symmetry.specs.Scans.{IsInPeriod, IsLower, SpecialHeight}
use Rattle.quotient.proofs.ListLaws.{AllPairs-map}
use Rattle.quotient.proofs.Zips.{zip_at}
use Rattle.plane_lattice.specs.declared.frame.Frame.{Frame}
use Rattle.scanning.specs.declared.height.Height.{Height}
use Rattle.scanning.specs.HeightView.{IsInHalves, heights_of_specials, special_of, specials_of}
use Rattle.scanning.specs.Levels.{IsLevel}
use Rattle.scanning.specs.SpecialHeights.{AreHeights, IsHeightAt}
use Rattle.scanning.proofs.HeightNumbers.{height_below, height_from, height_lower}

-- half of t parts has the level t
pub level_of_form : (s : Fraction) (t : ℤ) → IsLowestForm s t (pos 2 *ℤ UNIT) → IsLevel s t
level_of_form s t form =
    linear (s.num ∷ s.den ∷ t ∷ UNIT ∷ []) (var 1 ⊗ var 2) (num (pos 2) ⊗ var 0 ⊗ var 3)
    (given (num (negsuc 0)) (var 0 ⊗ (num (pos 2) ⊗ var 3)) (var 2 ⊗ var 1) ∷ []) tt (form.same, tt)

-- what is so of each height is so of each in the view
pub all_heights : (P : HeightOfPlane → Type 0) (hs : List Height) → All (λ (h : Height). P (fraction_of h.s)) hs → All P (heights_of_specials hs)
all_heights P hs all = All-map P (λ (h : SpecialHeight). h.height) (specials_of hs) (All-map (λ (h : SpecialHeight). P h.height) special_of hs all)

pub pairs_heights : (R : HeightOfPlane → HeightOfPlane → Type 0) (hs : List Height)
    → AllPairs (λ (h k : Height). R (fraction_of h.s) (fraction_of k.s)) hs → AllPairs R (heights_of_specials hs)
pairs_heights R hs all =
    AllPairs-map (λ (h : SpecialHeight). h.height) R (specials_of hs)
    (AllPairs-map special_of (λ (h k : SpecialHeight). R h.height k.height) hs all)

-- each is a whole number of half parts
pub in_halves : (hs : List Height) → All IsInHalves (heights_of_specials hs)
in_halves hs = all_heights IsInHalves hs each
  where
    each : All (λ (h : Height). IsInHalves (fraction_of h.s)) hs
    each i e h =
        let x = get_or hs i e in
        ap (λ n. int_rem n (fraction_of x.s).den) (sym x.is_level) ∙ rem-multiple (fraction_of x.s).den x.level x.s.positive

module _ (frame : Frame) (ms : List Motion) (hs : List Height) (are : AreHeights frame ms hs) where
  abbrev pub level_at : ℕ → ℤ
  level_at i = get_or are.levels i (pos 0)

  pub height_is : (i : ℕ) (e : Height) → i < length hs → IsHeightAt frame ms (level_at i) (get_or hs i e)
  height_is i e h = zip_at (IsHeightAt frame ms) are.levels hs are.each i (pos 0) e h

  pub has_level : (i : ℕ) (e : Height) → i < length hs → IsLevel (fraction_of (get_or hs i e).s) (level_at i)
  has_level i e h = level_of_form (fraction_of (get_or hs i e).s) (level_at i) (height_is i e h).form

  pub are_in_period : All (IsInPeriod frame.period.0) (heights_of_specials hs)
  are_in_period = all_heights (IsInPeriod frame.period.0) hs each
    where
      each : All (λ (h : Height). IsInPeriod frame.period.0 (fraction_of h.s)) hs
      each i e h =
          let s = fraction_of (get_or hs i e).s in
          let is = height_is i e h in
          let level = has_level i e h in record {
            positive = is.form.positive;
            lowest = is.form.lowest;
            from = height_from UNIT s.num s.den (level_at i) (omega (arith, ints)) is.form.positive level is.within.from;
            below = height_below UNIT s.num s.den (level_at i) (omega (arith, ints)) is.form.positive level frame.period.0 is.within.below;
          }

  pub are_rising : AllPairs IsLower (heights_of_specials hs)
  are_rising = pairs_heights IsLower hs each
    where
      each : AllPairs (λ (h k : Height). IsLower (fraction_of h.s) (fraction_of k.s)) hs
      each i j e below h =
          let before : i < length hs = omega arith in
          let s = fraction_of (get_or hs i e).s in
          let t = fraction_of (get_or hs j e).s in
          let long = AllZip-long (IsHeightAt frame ms) are.levels hs are.each in
          height_lower UNIT s.num s.den (level_at i) (omega (arith, ints)) (height_is i e before).form.positive (has_level i e before)
          t.num t.den (level_at j) (height_is j e h).form.positive (has_level j e h)
          (are.are.rising i j (pos 0) below (omega arith))
