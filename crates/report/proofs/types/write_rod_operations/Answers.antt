use Rattle.std.proofs.Common.{◌++◌, ap, ◌∙◌, arith}
use Rattle.std.specs.Prelude.{string_bytes}
use Rattle.triplets.proofs.TextLines.{one_line_more}
use Rattle.report.specs.Texts.{operation_line}
use Rattle.report.specs.TypeTexts.{block_of_rod}
use Rattle.report.proofs.types.write_rod_operations.Goals as goal

pub loop-m-preserved : goal.loop-m-preserved
loop-m-preserved c =
    c.in_ok-write_operation.ensures
    ∙ ap (λ block. (string_bytes c.loop-m.text) ++ operation_line block) c.triple.ensures
    ∙ one_line_more operation_line block_of_rod (string_bytes c.args.text.now) (string_bytes c.loop-m.text) c.args.ops.now c.loop-m.m-index _ (omega arith) c.loop-m.invariant
