use Rattle.std.proofs.Common.{length, map, subst, ◌∙◌, ◌<◌, arith}
use Rattle.std.proofs.lemmas.List.{get_or-map, length-map}
use Rattle.std.specs.Prelude.{string_bytes}
use Rattle.motions.specs.Layers.{planar_identity, planar_of, HasHalfPart}
use Rattle.triplets.proofs.TextLines.{one_line_more}
use Rattle.report.specs.Texts.{operation_line}
use Rattle.report.specs.TypeTexts.{block_of_layer}
use Rattle.report.proofs.types.write_layer_operations.Goals as goal

pub write_layer_operation-requires : goal.write_layer_operation-requires
write_layer_operation-requires c =
    let ops = c.args.ops.now in
    let i = c.loop-m.m-index in
    let within : i < length ops = omega arith in
    let placed : i < length (map planar_of ops) = omega (arith, length-map ops planar_of) in
    subst (λ m. ¬ HasHalfPart m) (get_or-map planar_of ops i _ planar_identity within) (c.requires i planar_identity placed)

pub loop-m-preserved : goal.loop-m-preserved
loop-m-preserved c =
    c.in_ok-write_layer_operation.ensures
    ∙ one_line_more operation_line block_of_layer (string_bytes c.args.text.now) (string_bytes c.loop-m.text) c.args.ops.now c.loop-m.m-index _ (omega arith) c.loop-m.invariant
