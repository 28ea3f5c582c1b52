-- The report of all heights of an orientation.
use Rattle.std.specs.Prelude.{◌≡◌, ℕ, List}
use Rattle.symmetry.specs.Vectors.{Vector}
use Rattle.symmetry.specs.Groups.{Listing}
use Rattle.symmetry.specs.Frames.{Basis}
use Rattle.report.specs.Consequences.{ReportSays}
use Rattle.report.specs.Reports.{IsReport, Report}
use Rattle.report.specs.Texts.{report_text}
use Rattle.report.specs.Values.{report_json}
use Rattle.requests.specs.declared.request.Form.{Form}
use Rattle.requests.specs.declared.request.Form.TheVariants as forms
use Rattle.requests.specs.Obstacles.{IsFairFrame}

-- a report in a form
abbrev pub written_report : Form → Report → List ℕ
written_report forms.Text report = report_text report
written_report forms.Json report = report_json report

-- the text is the report in its form, with what this says of every height
pub record IsReportAnswer (g : Listing) (row : Vector) (basis : Basis) (form : Form) (text : List ℕ) : Type 0 where
  pub frame : IsFairFrame g row basis
  pub report : Report
  pub is_report : IsReport g row basis report
  pub says : ReportSays g row basis report
  pub is_text : text ≡ written_report form report
