-- What a Report of the code says.
use Rattle.std.specs.Prelude.{◌≡◌, map}
use Rattle.symmetry.specs.Groups.{Listing}
use Rattle.motions.specs.Views.{row_of}
use Rattle.plane_lattice.specs.declared.frame.Frame.{Frame}
use Rattle.plane_lattice.specs.FrameView.{basis_of_frame}
use Rattle.report.specs.Reports.{IsReport, Report as ReportOfPlanes}
use Rattle.fractions.specs.Fractions.{fractions_of}
use Rattle.report.specs.SectionView.{block_of, section_of}
use Rattle.report.specs.declared.report.Report.{Report}

-- the orientation, the period, the frame, the vector c', the number of planes, the general operations and the special heights
abbrev pub report_of : Report → ReportOfPlanes
report_of report = record {
  row = row_of report.frame.plane;
  period = report.frame.period.0;
  basis = basis_of_frame report.frame;
  mean = fractions_of report.frame.c;
  planes = report.planes;
  general = section_of report.general;
  heights = map block_of report.heights.items;
}

-- the report of what is listed in the frame
pub record IsReportOf (g : Listing) (frame : Frame) (report : Report) : Type 0 where
  pub frame_is : report.frame ≡ frame
  pub is : IsReport g (row_of frame.plane) (basis_of_frame frame) (report_of report)
