use Rattle.std.proofs.Common.{◌≡◌, ◌+◌, take}
use Rattle.std.specs.Prelude.{count_by, is_none}
use Rattle.report.specs.ReportView.{report_of}
use Rattle.sample.specs.Counted.{types_of}
use Rattle.sample.proofs.counts.unrecognised_sections.Given as goal

abbrev pub invariant-loop-height : goal.invariant-loop-height
invariant-loop-height l = l.unrecognised ≡ count_by is_none (take (l.height-index + 1) (types_of (report_of l.report)))
