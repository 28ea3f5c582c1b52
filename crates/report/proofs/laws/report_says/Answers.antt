use Rattle.report.proofs.Says.{report_says}
use Rattle.report.proofs.laws.report_says.Goals as goal

pub returns : goal.returns
returns c = report_says
