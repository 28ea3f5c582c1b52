-- A vector of ratios, in lowest terms.
use Rattle.std.proofs.Common.{List}
use Rattle.fractions.specs.declared.ratio.Ratio.{Ratio}
use Rattle.symmetry.specs.Motions.{Point}
use Rattle.plane_lattice.specs.Scanning.{IsPointOf}
use Rattle.fractions.specs.Fractions.{fractions_of}
use Rattle.fractions.proofs.Arrays.{fraction_at-lowest, fraction_at-positive}
use Rattle.report.specs.Reports.{IsPointInLowestTerms}

pub point_in_lowest_terms : (p : Point) (c : List Ratio) → IsPointOf p c → IsPointInLowestTerms p (fractions_of c)
point_in_lowest_terms p c h = record {
  x = record { positive = fraction_at-positive c 0; lowest = fraction_at-lowest c 0; same = h.x };
  y = record { positive = fraction_at-positive c 1; lowest = fraction_at-lowest c 1; same = h.y };
  z = record { positive = fraction_at-positive c 2; lowest = fraction_at-lowest c 2; same = h.z };
}
