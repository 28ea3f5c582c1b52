-- What a report says of every height.
use Rattle.std.specs.Prelude.{List}
use Rattle.symmetry.specs.Vectors.{Vector, dot}
use Rattle.symmetry.specs.Motions.{Motion}
use Rattle.symmetry.specs.Planes.{Height, IsHeight}
use Rattle.symmetry.specs.Groups.{Listing, InStabiliser}
use Rattle.symmetry.specs.Frames.{Basis}
use Rattle.symmetry.specs.Lists.{ListsInPlane}
use Rattle.symmetry.specs.Scans.{GivesAt, IsInOneClass}
use Rattle.report.specs.Reports.{Report, scan_of_report}

-- every height is in one of its classes; it gives operations at each height; and what it gives there are, once each modulo
-- the translations of the plane, exactly the members of the group that map the plane to itself
pub record ReportSays (g : Listing) (r : Vector) (f : Basis) (report : Report) : Type 0 where
  pub classes : (s : Height) → IsHeight s → IsInOneClass g r (dot r f.tau) (scan_of_report report).special s
  pub given : (s : Height) → IsHeight s → (ops : List Motion) × GivesAt g r f (scan_of_report report) s ops
  pub exactly : (s : Height) (ops : List Motion) → IsHeight s → GivesAt g r f (scan_of_report report) s ops
      → ListsInPlane g r (InStabiliser g r s) ops
