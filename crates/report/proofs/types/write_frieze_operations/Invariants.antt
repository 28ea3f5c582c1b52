use Rattle.std.proofs.Common.{◌≡◌, ◌++◌, map, take}
use Rattle.std.specs.Prelude.{flat_map, string_bytes}
use Rattle.motions.specs.FriezeMotions.{frieze_of}
use Rattle.report.specs.TypeTexts.{frieze_line}
use Rattle.report.proofs.types.write_frieze_operations.Given as goal

abbrev pub invariant-loop-m : goal.invariant-loop-m
invariant-loop-m l = string_bytes l.text ≡ string_bytes l.initial.text ++ flat_map frieze_line (map frieze_of (take l.m-index l.ops))
