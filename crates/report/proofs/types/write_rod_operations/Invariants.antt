use Rattle.std.proofs.Common.{◌≡◌, ◌++◌, map, take}
use Rattle.std.specs.Prelude.{flat_map, string_bytes}
use Rattle.report.specs.Texts.{operation_line}
use Rattle.report.specs.TypeTexts.{block_of_rod}
use Rattle.report.proofs.types.write_rod_operations.Given as goal

abbrev pub invariant-loop-m : goal.invariant-loop-m
invariant-loop-m l =
    string_bytes l.text ≡ string_bytes l.initial.text ++ flat_map operation_line (map block_of_rod (take l.m-index l.ops))
