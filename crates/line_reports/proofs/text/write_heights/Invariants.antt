use Rattle.std.proofs.Common.{◌≡◌, ◌++◌, map, take}
use Rattle.std.specs.Prelude.{flat_map, string_bytes}
use Rattle.line_scans.specs.LineView.{line_height_of, line_scan_of}
use Rattle.line_reports.specs.LineTexts.{height_text}
use Rattle.line_reports.proofs.text.write_heights.Given as goal

abbrev pub invariant-loop-height : goal.invariant-loop-height
invariant-loop-height l =
    string_bytes l.text ≡ string_bytes l.initial.text ++ flat_map (height_text (line_scan_of l.fn.scan)) (map line_height_of (take l.height-index l.heights))
