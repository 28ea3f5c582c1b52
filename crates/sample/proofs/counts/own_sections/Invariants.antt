use Rattle.std.proofs.Common.{◌≡◌, ◌+◌, take}
use Rattle.std.specs.Prelude.{count_by}
use Rattle.report.specs.ReportView.{report_of}
use Rattle.sample.specs.Counted.{has_number, types_of}
use Rattle.sample.proofs.counts.own_sections.Given as goal

abbrev pub invariant-loop-height : goal.invariant-loop-height
invariant-loop-height l = l.own ≡ count_by (has_number l.number) (take (l.height-index + 1) (types_of (report_of l.report)))
