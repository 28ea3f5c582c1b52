-- The report of a line.
use Rattle.std.specs.Prelude.{◌≡◌, List, Option}
use Rattle.fractions.specs.Fractions.{Fractions}
use Rattle.symmetry.specs.Vectors.{Vector}
use Rattle.symmetry.specs.Motions.{Motion}
use Rattle.symmetry.specs.Groups.{Listing}
use Rattle.recognition.specs.declared.found_rod.FoundRod.{FoundRod}
use Rattle.penetration.specs.FrameOf.{with_axis}
use Rattle.penetration.specs.RodFrames.{AreRodOperations, IsRodFrame, IsRodSkewed, levelled}
use Rattle.penetration.specs.RodSections.{counted}
use Rattle.penetration.specs.RodView.{IsRodAlong}
use Rattle.report.specs.TypeVectors.{lowest_point}

-- what is told of a line: its direction, a point of it and its axis, both in parts, the vectors a' and b', the operations that
-- map it to itself, and the change of their section onto a rod type
pub record RodReport : Type 0 where
  pub direction : Vector
  pub point : Vector
  pub axis : Vector
  pub first : Fractions
  pub second : Fractions
  pub ops : List Motion
  pub found : Option FoundRod

-- the report of the group and the line through the point p with the direction [uvw]: with the axis a and b are a rod frame that is
-- not skewed, a' and b' are those of it in lowest terms, and the rest is what there is along the line
pub record IsRodReport (g : Listing) (u a b p : Vector) (report : RodReport) : Type 0 where
  pub direction : report.direction ≡ u
  pub point : report.point ≡ p
  pub frame : IsRodFrame g u (with_axis a b report.axis)
  pub not_skewed : ¬ IsRodSkewed g u (with_axis a b report.axis)
  pub rods : List Motion
  pub are_rods : AreRodOperations g u rods
  pub first : report.first ≡ lowest_point (levelled u (with_axis a b report.axis) rods a)
  pub second : report.second ≡ lowest_point (levelled u (with_axis a b report.axis) rods b)
  pub told : IsRodAlong g u (with_axis a b report.axis) (counted p) report.ops report.found
