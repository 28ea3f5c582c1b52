use Rattle.std.proofs.Common.{[], ◌∙◌, arith}
use Rattle.std.specs.Prelude.{string_bytes}
use Rattle.motions.specs.Views.{vector_of}
use Rattle.triplets.proofs.TextLines.{one_line_more}
use Rattle.report.specs.Texts.{image_line}
use Rattle.report.proofs.images.images_text.Goals as goal

pub loop-image-preserved : goal.loop-image-preserved
loop-image-preserved c =
    c.in_ok-write_image.ensures
    ∙ one_line_more image_line vector_of [] (string_bytes c.loop-image.text) c.args.images.now c.loop-image.image-index _ (omega arith) c.loop-image.invariant
