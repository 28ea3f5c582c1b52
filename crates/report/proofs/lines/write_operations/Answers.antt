use Rattle.std.proofs.Common.{◌∙◌, arith}
use Rattle.std.specs.Prelude.{string_bytes}
use Rattle.motions.specs.Views.{motion_of}
use Rattle.triplets.proofs.TextLines.{one_line_more}
use Rattle.report.specs.Texts.{operation_line}
use Rattle.report.proofs.lines.write_operations.Goals as goal

pub loop-m-preserved : goal.loop-m-preserved
loop-m-preserved c =
    c.in_ok-write_operation.ensures
    ∙ one_line_more operation_line motion_of (string_bytes c.args.text.now) (string_bytes c.loop-m.text) c.args.ops.now c.loop-m.m-index _ (omega arith) c.loop-m.invariant
