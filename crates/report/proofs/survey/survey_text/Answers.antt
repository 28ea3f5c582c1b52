use Rattle.std.proofs.Common.{[], ◌++◌, ◌∙◌, ap, arith}
use Rattle.std.specs.Prelude.{string_bytes}
use Rattle.triplets.proofs.TextLines.{one_line_more}
use Rattle.surveys.specs.SurveyView.{surveyed_of}
use Rattle.report.specs.SurveyTexts.{surveyed_line}
use Rattle.report.proofs.survey.survey_text.Goals as goal

pub loop-surveyed-preserved : goal.loop-surveyed-preserved
loop-surveyed-preserved c =
    let surveyed = c.surveyed-item.result in
    c.in_ok-write_surveyed.ensures
    ∙ ap (λ s. (string_bytes c.loop-surveyed.text) ++ surveyed_line (surveyed_of s)) c.surveyed-item.is
    ∙ one_line_more surveyed_line surveyed_of [] (string_bytes c.loop-surveyed.text) c.args.list.now c.loop-surveyed.surveyed-index surveyed (omega arith) c.loop-surveyed.invariant
