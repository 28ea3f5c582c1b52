use Rattle.std.proofs.Common.{◌≡◌, map, take}
use Rattle.std.specs.Prelude.{flat_map, string_bytes}
use Rattle.surveys.specs.SurveyView.{surveyed_of}
use Rattle.report.specs.SurveyTexts.{surveyed_line}
use Rattle.report.proofs.survey.survey_text.Given as goal

abbrev pub invariant-loop-surveyed : goal.invariant-loop-surveyed
invariant-loop-surveyed l = string_bytes l.text ≡ flat_map surveyed_line (map surveyed_of (take l.surveyed-index l.list))
