use Rattle.std.proofs.Common.{◌≡◌, map, take}
use Rattle.serde_json.specs.View.{view}
use Rattle.report.specs.ReportView.{report_of}
use Rattle.report.specs.SectionView.{block_of}
use Rattle.report.specs.Values.{height_data}
use Rattle.report.proofs.json.heights_value.Given as goal

abbrev pub invariant-loop-height : goal.invariant-loop-height
invariant-loop-height l = map view l.values.items ≡ map (height_data (report_of l.fn.report)) (map block_of (take l.height-index l.heights))
