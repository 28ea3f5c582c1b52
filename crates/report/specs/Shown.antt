-- What a report takes over from a scan, the orbits of its heights, and what was found of its sections.
use Rattle.std.specs.Prelude.{◌≡◌, ℕ, List, Option, map}
use Rattle.std.specs.List.{zip}
use Rattle.recognition.specs.declared.found.Found.{Found}
use Rattle.scanning.specs.declared.scan.Scan.{Scan}
use Rattle.scanning.specs.ScanView.{scan_of}
use Rattle.report.specs.Numbered.{numbered}
use Rattle.report.specs.Reports.{block_orbits, scan_of_report}
use Rattle.report.specs.ReportView.{report_of}
use Rattle.report.specs.declared.report.Report.{Report}

-- the report shows the scan, the numbers of the orbits of its special heights, the number of planes, and the types
pub record Shows (scan : Scan) (numbers : List ℕ) (planes : ℕ) (general : Option Found) (types : List (Option Found)) (report : Report) : Type 0 where
  pub same_frame : report.frame ≡ scan.frame
  pub same_scan : scan_of_report (report_of report) ≡ scan_of scan
  pub same_orbits : block_orbits (report_of report).heights ≡ numbers
  pub same_planes : report.planes ≡ planes
  pub same_general : report.general.found ≡ general
  pub same_heights : report.heights.items ≡ map numbered (zip scan.special.items (zip numbers types))
