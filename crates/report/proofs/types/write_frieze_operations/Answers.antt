use Rattle.std.proofs.Common.{◌∙◌, arith}
use Rattle.std.specs.Prelude.{string_bytes}
use Rattle.motions.specs.FriezeMotions.{frieze_of}
use Rattle.triplets.proofs.TextLines.{one_line_more}
use Rattle.report.specs.TypeTexts.{frieze_line}
use Rattle.report.proofs.types.write_frieze_operations.Goals as goal

pub loop-m-preserved : goal.loop-m-preserved
loop-m-preserved c =
    c.in_ok-write_frieze_operation.ensures
    ∙ one_line_more frieze_line frieze_of (string_bytes c.args.text.now) (string_bytes c.loop-m.text) c.args.ops.now c.loop-m.m-index _ (omega arith) c.loop-m.invariant
