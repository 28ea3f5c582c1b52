use Rattle.std.proofs.Common.{◌≡◌, ◌++◌, subst}
use Rattle.std.specs.Prelude.{OnOk, string_bytes}
use Rattle.motions.specs.Views.{motion_of}
use Rattle.report.specs.Texts.{operation_line}
use Rattle.report.proofs.Blocks.{block_by_form}
use Rattle.report.proofs.types.write_layer_operation.Goals as goal

pub returns : goal.returns
returns c =
    let block = block_by_form c.args.m.now (motion_of c.in-Some.block) c.in-Some.ensures.block in
    subst (λ b. OnOk c.write_operation.result (string_bytes c.write_operation.new.text ≡ string_bytes c.args.text.now ++ operation_line b)) block c.write_operation.ensures
