use Rattle.report.proofs.AlikeReports.{alike_reports}
use Rattle.report.proofs.laws.alike_reports.Goals as goal

pub returns : goal.returns
returns c = alike_reports
