-- What a report says of every height.
use Rattle.symmetry.specs.Vectors.{Vector}
use Rattle.symmetry.specs.Planes.{IsCoprime}
use Rattle.symmetry.specs.Groups.{Listing, IsGroup}
use Rattle.symmetry.specs.Frames.{Basis, IsFrame}
use Rattle.symmetry.proofs.ScanLists.{scan_gives_some, scan_lists_in_plane}
use Rattle.report.specs.Consequences.{ReportSays}
use Rattle.report.specs.Reports.{IsReport, Report, scan_of_report}

pub report_says : (g : Listing) (r : Vector) (f : Basis) (report : Report) → IsGroup g → IsCoprime r → IsFrame g r f → IsReport g r f report
    → ReportSays g r f report
report_says g r f report group coprime frame is =
    let scan = scan_of_report report in
    record {
      classes = is.scan.classes;
      given = λ s high. scan_gives_some g r f frame scan is.scan s high;
      exactly = λ s ops high given. scan_lists_in_plane g r f frame group coprime scan is.scan s high ops given;
    }
