-- How large the numbers are of the scan of the lines.
use Rattle.std.proofs.Common.{◌≡◌, ◌*◌, List, [], ◌∷◌, ℤ, pos, ◌*ℤ◌, ◌-ℤ◌, ◌≤ℤ◌, ◌<ℤ◌, sym, subst, arith}
use Rattle.std.specs.Prelude.{All, unsigned_abs}
use Rattle.std.specs.List.{AllZip}
use Rattle.std.proofs.lemmas.Int.{ints}
use Rattle.std.proofs.lemmas.List.Elements.{All-cons, All-nil}
use Rattle.fractions.specs.FractionOf.{fraction_of}
use Rattle.fractions.specs.LowestTerms.{IsLowestForm, IsNoLarger, lowest_terms}
use Rattle.fractions.specs.declared.part.TheConstants.{UNIT}
use Rattle.fractions.proofs.Lowest.{IsNoLarger-lowest_terms, lowest_terms-only}
use Rattle.integers.specs.Size.{IsWithin}
use Rattle.integers.proofs.Order.{mul-le-mul_right, zero-le-mul}
use Rattle.integers.proofs.Solver.{Expr.{var, num, ◌⊗◌}, given, linear}
use Rattle.symmetry.specs.Planes.{Height as HeightOfLine}
use Rattle.symmetry.specs.Vectors.{Vector}
use Rattle.symmetry.specs.Frames.{Basis}
use Rattle.plane_lattice.specs.Bounds.{largest_period}
use Rattle.plane_lattice.specs.SmallHeights.{IsSmallHeight}
use Rattle.scanning.specs.Levels.{IsLevel}
use Rattle.scanning.specs.declared.height.Height.{Height}
use Rattle.line_scans.specs.LineOps.{IsStep}
use Rattle.line_scans.specs.LineView.{IsLineHeightOf}
use Rattle.line_scans.specs.declared.scan.LineHeight.{LineHeight}

-- a level at a step of the period lies from 0 to below two periods
level_from : (d level k : ℤ) → pos 1 ≤ℤ d → IsStep d level k → pos 0 ≤ℤ level
level_from d level k above step = let least = zero-le-mul k d step.from (omega (arith, ints)) in omega (arith, ints, least, step.is)

level_below : (d level k : ℤ) → pos 1 ≤ℤ d → IsStep d level k → level <ℤ (pos 2 *ℤ d)
level_below d level k above step =
    let most = mul-le-mul_right k (pos 2 *ℤ UNIT -ℤ pos 1) d (omega (arith, ints)) (omega (arith, ints, step.below)) in
    omega (arith, ints, most, step.is)

-- a height in lowest terms is its level over the half parts of an edge
lowest_level : (s : HeightOfLine) (level : ℤ) → IsLevel s level → s.num *ℤ (pos 2 *ℤ UNIT) ≡ level *ℤ s.den
lowest_level s level e =
    linear (s.num ∷ s.den ∷ level ∷ []) (var 0 ⊗ (num (pos 2) ⊗ num UNIT)) (var 2 ⊗ var 1)
    (given (num (pos 1)) (num (pos 2) ⊗ var 0 ⊗ num UNIT) (var 1 ⊗ var 2) ∷ []) tt (sym e, tt)

module _ (r : Vector) (f : Basis) (d : ℤ) (above : pos 1 ≤ℤ d) (within : IsWithin largest_period d) where
  small_line_height : (h : Height) (line : LineHeight) → IsLineHeightOf r f d h line → IsSmallHeight (fraction_of line.s)
  small_line_height h line of =
      let s = fraction_of line.s in
      let x = h.level in
      let level : IsLevel s x = subst (λ q. IsLevel q x) (sym of.height) h.is_level in
      let form : IsLowestForm s x (pos 2 *ℤ UNIT) = record { positive = line.s.positive; lowest = line.s.lowest; same = lowest_level s x level } in
      let same : s ≡ lowest_terms x (pos 2 *ℤ UNIT) = lowest_terms-only s x (pos 2 *ℤ UNIT) (λ e. absurd (omega (arith, ints, e))) form in
      let no_larger : IsNoLarger s x (pos 2 *ℤ UNIT) = subst (λ q. IsNoLarger q x (pos 2 *ℤ UNIT)) (sym same) (IsNoLarger-lowest_terms x (pos 2 *ℤ UNIT)) in
      let from = level_from d x of.step above of.is_step in
      let below = level_below d x of.step above of.is_step in
      let num : IsWithin (2 * largest_period) s.num = record { most = omega (arith, ints, no_larger.num_size, from, below, within.most) } in
      let den : IsWithin (2 * unsigned_abs UNIT) s.den = record { most = omega (arith, no_larger.den_size) } in
      record { num = num; den = den; above = line.s.positive }

  pub small_line_heights : (hs : List Height) (lines : List LineHeight) → AllZip (IsLineHeightOf r f d) hs lines
      → All (λ line. IsSmallHeight (fraction_of line.s)) lines
  small_line_heights [] [] zip = All-nil _
  small_line_heights [] (y ∷ ys) zip = absurd zip
  small_line_heights (x ∷ xs) [] zip = absurd zip
  small_line_heights (x ∷ xs) (y ∷ ys) zip =
      All-cons (λ line. IsSmallHeight (fraction_of line.s)) y ys (small_line_height x y zip.0) (small_line_heights xs ys zip.1)
