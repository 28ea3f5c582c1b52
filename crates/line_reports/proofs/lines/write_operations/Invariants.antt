use Rattle.std.proofs.Common.{◌≡◌, ◌++◌, map, take}
use Rattle.std.specs.Prelude.{flat_map, string_bytes}
use Rattle.plane_motions.specs.PlaneMotions.{plane_of}
use Rattle.line_reports.specs.LineTexts.{operation_line}
use Rattle.line_reports.proofs.lines.write_operations.Given as goal

abbrev pub invariant-loop-m : goal.invariant-loop-m
invariant-loop-m l = string_bytes l.text ≡ string_bytes l.initial.text ++ flat_map operation_line (map plane_of (take l.m-index l.ops))
