-- How large the numbers of a scan of lines are.
use Rattle.std.specs.Prelude.{ℤ, pos, ◌≤ℤ◌, All}
use Rattle.fractions.specs.FractionOf.{fraction_of}
use Rattle.integers.specs.Size.{IsWithin}
use Rattle.motions.specs.PlaneSizes.{IsPairWithin}
use Rattle.plane_lattice.specs.Bounds.{largest_entry, largest_period}
use Rattle.plane_motions.specs.PlaneMotions.{parts2}
use Rattle.plane_lattice.specs.SmallHeights.{IsSmallHeight}
use Rattle.line_scans.specs.declared.scan.LineScan.{LineScan}

-- a period in parts
pub record IsSmallPeriod (d : ℤ) : Type 0 where
  pub within : IsWithin largest_period d
  pub above : pos 1 ≤ℤ d

-- the vectors, the period and the heights of a frame of lines
pub record IsSmallLineScan (scan : LineScan) : Type 0 where
  pub a : IsPairWithin largest_entry (parts2 scan.a)
  pub tau : IsPairWithin largest_entry (parts2 scan.tau)
  pub period : IsSmallPeriod scan.period.0
  pub heights : All (λ h. IsSmallHeight (fraction_of h.s)) scan.heights.items
