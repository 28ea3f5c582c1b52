use Rattle.std.proofs.Common.{◌≡◌, ◌++◌, map, take}
use Rattle.std.specs.Prelude.{flat_map, string_bytes}
use Rattle.report.specs.ReportView.{report_of}
use Rattle.report.specs.SectionView.{block_of}
use Rattle.report.specs.Texts.{height_text}
use Rattle.report.proofs.text.write_heights.Given as goal

abbrev pub invariant-loop-height : goal.invariant-loop-height
invariant-loop-height l =
    string_bytes l.text ≡ string_bytes l.initial.text ++ flat_map (height_text (report_of l.fn.report)) (map block_of (take l.height-index l.heights))
