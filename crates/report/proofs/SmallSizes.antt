-- How large the numbers of a height in a period are, which is a whole number of half parts.
use Rattle.std.proofs.Common.{◌≡◌, ℕ, ◌*◌, ◌<◌, length, map, get_or, ℤ, pos, ◌+ℤ◌, ◌*ℤ◌, ◌<ℤ◌, List, unsigned_abs, sym, ap, subst, ◌∙◌, arith}
use Rattle.std.specs.Prelude.{All, int_div}
use Rattle.std.proofs.lemmas.List.{get_or-map, length-map}
use Rattle.std.proofs.lemmas.Int.{ints, quot-rem}
use lib.IntN.{*ℤ_comm}
use Rattle.fractions.specs.declared.part.TheConstants.{UNIT}
use Rattle.fractions.specs.FractionOf.{fraction_of}
use Rattle.fractions.specs.LowestTerms.{lowest_terms, IsLowestForm, IsNoLarger}
use Rattle.fractions.proofs.Lowest.{IsNoLarger-lowest_terms, lowest_terms-only, same_half}
use Rattle.integers.specs.Size.{IsWithin}
use Rattle.integers.proofs.Ring.{add_zero, IsWithin-mul}
use Rattle.symmetry.specs.Planes.{Height}
use Rattle.symmetry.specs.Scans.{IsInPeriod, SpecialHeight}
use Rattle.symmetry.proofs.HeightsInPeriod.{less_by_factor}
use Rattle.plane_lattice.specs.Bounds.{largest_period}
use Rattle.plane_lattice.specs.SmallHeights.{IsSmallHeight}
use Rattle.scanning.specs.declared.height.Height.{Height as HeightOfScan}
use Rattle.scanning.specs.declared.scan.Scan.{Scan}
use Rattle.scanning.specs.HeightView.{IsInHalves, special_of}
use Rattle.scanning.proofs.MadeHeights.{in_halves}
use Rattle.scanning.proofs.Shifts.{period_within}
use Rattle.report.specs.declared.report.Report.{Report}
use Rattle.report.specs.declared.report.HeightSection.{HeightSection}
use Rattle.report.specs.Reports.{HeightBlock}
use Rattle.report.specs.SectionView.{block_of}

-- the half parts that there are
pub half_parts : (s : Height) → IsInHalves s → s.den *ℤ int_div (pos 2 *ℤ s.num *ℤ UNIT) s.den ≡ pos 2 *ℤ s.num *ℤ UNIT
half_parts s e =
    *ℤ_comm s.den _ ∙ sym (add_zero _) ∙ ap (λ r. int_div (pos 2 *ℤ s.num *ℤ UNIT) s.den *ℤ s.den +ℤ r) (sym e) ∙ quot-rem (pos 2 *ℤ s.num *ℤ UNIT) s.den

pub small_height : (d : ℤ) (s : Height) → IsWithin largest_period d → IsInPeriod d s → IsInHalves s → IsSmallHeight s
small_height d s small inside halves =
    let x : ℤ = int_div (pos 2 *ℤ s.num *ℤ UNIT) s.den in
    let form : IsLowestForm s x (pos 2 *ℤ UNIT) = record {
      positive = inside.positive;
      lowest = inside.lowest;
      same = same_half s.num s.den x UNIT (half_parts s halves);
    } in
    let same : s ≡ lowest_terms x (pos 2 *ℤ UNIT) = lowest_terms-only s x (pos 2 *ℤ UNIT) (λ e. absurd (omega (arith, ints, e))) form in
    let no_larger : IsNoLarger s x (pos 2 *ℤ UNIT) = subst (λ q. IsNoLarger q x (pos 2 *ℤ UNIT)) (sym same) (IsNoLarger-lowest_terms x (pos 2 *ℤ UNIT)) in
    let den : IsWithin (2 * unsigned_abs UNIT) s.den = record { most = omega (arith, no_larger.den_size) } in
    let most = (IsWithin-mul small den).most in
    let below : s.num <ℤ pos (2 * largest_period) =
    less_by_factor UNIT s.num (pos (2 * largest_period)) (omega (arith, ints)) (omega (arith, ints, inside.below, most)) in
    record { num = record { most = omega (arith, ints, inside.from, below) }; den = den; above = inside.positive }

-- ---- lists of heights

two_maps : {X Y Z : Type 0} (f : X → Y) (h : Y → Z) (xs : List X) (i : ℕ) (d : X) (e : Z) → i < length xs
    → get_or (map h (map f xs)) i e ≡ h (f (get_or xs i d))
two_maps f h xs i d e l =
    let within : i < length (map f xs) = omega (arith, length-map xs f) in
    get_or-map h (map f xs) i (f d) e within ∙ ap h (get_or-map f xs i d (f d) l)

all_of_two : {X Y Z : Type 0} (P : Z → Type 0) (f : X → Y) (h : Y → Z) (xs : List X) → All P (map h (map f xs)) → All (λ x. P (h (f x))) xs
all_of_two P f h xs all i d l =
    subst P (two_maps f h xs i d (h (f d)) l) (all i (h (f d)) (omega (arith, length-map xs f, length-map (map f xs) h)))

pub small_specials : (scan : Scan) → All (λ (h : HeightOfScan). IsSmallHeight (fraction_of h.s)) scan.special.items
small_specials scan i d l =
    let hs = scan.special.items in
    let height : SpecialHeight → Height = λ s. s.height in
    small_height scan.frame.period.0 (fraction_of (get_or hs i d).s) (period_within scan.frame)
    (all_of_two (IsInPeriod scan.frame.period.0) special_of height hs scan.in_period i d l) (all_of_two IsInHalves special_of height hs (in_halves hs) i d l)

pub small_sections : (report : Report) → All (λ (h : HeightSection). IsSmallHeight (fraction_of h.s)) report.heights.items
small_sections report i d l =
    let hs = report.heights.items in
    let height : HeightBlock → Height = λ b. b.height in
    small_height report.frame.period.0 (fraction_of (get_or hs i d).s) (period_within report.frame)
    (all_of_two (IsInPeriod report.frame.period.0) block_of height hs report.in_period i d l) (all_of_two IsInHalves block_of height hs report.halves i d l)
