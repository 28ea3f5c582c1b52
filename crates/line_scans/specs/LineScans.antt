-- The lines of an orientation of a plane group, height by height.
use Rattle.std.specs.Prelude.{◌≡◌, ℕ, ◌<◌, ℤ, List, length, map, All, AllPairs}
use Rattle.fractions.specs.Fraction.{Fraction, SameFraction}
use Rattle.fractions.specs.LowestTerms.{IsLowestForm}
use Rattle.symmetry.specs.Planes.{Height, IsHeight}
use Rattle.symmetry.specs.Groups.{Listing}
use Rattle.symmetry.specs.Scans.{IsInPeriod, IsLower, raised_height}
use Rattle.symmetry.specs.Orbits.{height_at}
use Rattle.motions.specs.PlaneMatrices.{Pair}
use Rattle.plane_motions.specs.PlaneMotions.{PlaneMotion}
use Rattle.friezes.specs.Order.{Change}
use Rattle.line_frames.specs.Lines.{IsLineFrame}
use Rattle.line_scans.specs.Lines.{FixesEveryLine, InLineStabiliser, IsSpecialLine, PlanePoint}
use Rattle.line_scans.specs.LineLists.{AreLineScanning, IsLineList}
use Rattle.line_scans.specs.LineSections.{InGeneralLineSection, InLineSectionAt, IsFirstFrieze, line_mean}

-- the operations of a class of heights, and the change of their section onto a frieze type
pub record LineSection : Type 0 where
  pub ops : List PlaneMotion
  pub found : Change

-- a special height and its section
pub record LineHeight : Type 0 where
  pub height : Height
  pub section : LineSection

-- two fractions, counted in cell edges
pub record TwoFractions : Type 0 where
  pub x : Fraction
  pub y : Fraction

-- what is told of the lines: the row (hk), the vectors a and tau, the period in parts, the vector c', the general
-- section, and the special heights
pub record LineScan : Type 0 where
  pub row : Pair
  pub a : Pair
  pub tau : Pair
  pub period : ℤ
  pub mean : TwoFractions
  pub general : LineSection
  pub heights : List LineHeight

-- the heights alone
abbrev pub heights_of : List LineHeight → List Height
heights_of special = map (λ (h : LineHeight). h.height) special

-- the height is k periods above the height at the place i
pub record StandsAt (d : ℤ) (heights : List Height) (s : Height) (i : ℕ) (k : ℤ) : Type 0 where
  pub within : i < length heights
  pub is : SameFraction s (raised_height d k (height_at heights i))

-- the height is general, and stands over no listed height; or it is special, and stands over exactly one, by exactly one
-- number of periods
pub data IsInOneClass (g : Listing) (r : Pair) (d : ℤ) (heights : List Height) (s : Height) : Type 0 where
  general : ¬ IsSpecialLine g r s → ((i : ℕ) (k : ℤ) → ¬ StandsAt d heights s i k) → IsInOneClass g r d heights s
  special : (i : ℕ) (k : ℤ) → IsSpecialLine g r s → StandsAt d heights s i k
      → ((j : ℕ) (l : ℤ) → StandsAt d heights s j l → (j ≡ i) × (l ≡ k)) → IsInOneClass g r d heights s

-- the point in lowest terms
pub record IsInLowestForm (p : PlanePoint) (v : TwoFractions) : Type 0 where
  pub x : IsLowestForm v.x p.at.x p.over
  pub y : IsLowestForm v.y p.at.y p.over

-- the scan of the lines (hk) of a plane group: every height is in one class; the general list is that of the motions that
-- map every line to itself, and the list at a special height that of its stabiliser; each section has its first change
-- onto a frieze type
pub record IsLineScan (g : Listing) (r : Pair) (scan : LineScan) : Type 0 where
  pub row : scan.row ≡ r
  pub frame : IsLineFrame g r scan.a scan.tau scan.period
  pub scanning : List PlaneMotion
  pub are_scanning : AreLineScanning g r scanning
  pub mean : IsInLowestForm (line_mean r scan.tau scanning) scan.mean
  pub in_period : All (IsInPeriod scan.period) (heights_of scan.heights)
  pub rising : AllPairs IsLower (heights_of scan.heights)
  pub classes : (s : Height) → IsHeight s → IsInOneClass g r scan.period (heights_of scan.heights) s
  pub general : IsLineList g scan.a scan.tau (FixesEveryLine g r) scan.general.ops
  pub lists : All (λ (h : LineHeight). IsLineList g scan.a scan.tau (InLineStabiliser g r h.height) h.section.ops) scan.heights
  pub general_type : (s : Height) → IsHeight s
      → IsFirstFrieze (InGeneralLineSection g r scan.a scan.period (line_mean r scan.tau scanning) s) scan.general.found
  pub types : All (λ (h : LineHeight).
      IsFirstFrieze (InLineSectionAt g r scan.a scan.tau scan.period (line_mean r scan.tau scanning) h.height) h.section.found) scan.heights
