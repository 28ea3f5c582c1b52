use Rattle.std.proofs.Common.{◌≡◌, ◌++◌, ap, ◌∙◌}
use Rattle.std.specs.Prelude.{codes, string_bytes}
use Rattle.serde_json.specs.Written.{compact_text, has_float}
use Rattle.report.specs.ReportView.{report_of}
use Rattle.report.specs.Values.{report_data}
use Rattle.report.proofs.JsonValues.{report_no_float}
use Rattle.report.proofs.report.Report.json.Goals as goal

pub returns : goal.returns
returns c =
    let value = c.in_ok-report_value.ensures in
    let text : string_bytes c.in_ok-line.line ≡ compact_text (report_data (report_of c.args.self.now))
    = c.in_ok-line.ensures.text (ap has_float value ∙ report_no_float (report_of c.args.self.now)) ∙ ap compact_text value in
    ap (λ v. v.items) c.into_bytes.ensures.value ∙ c.in_ok-push_str.ensures.bytes ∙ ap (λ t. t ++ codes "\n") text
