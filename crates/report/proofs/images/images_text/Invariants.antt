use Rattle.std.proofs.Common.{◌≡◌, map, take}
use Rattle.std.specs.Prelude.{flat_map, string_bytes}
use Rattle.motions.specs.Views.{vector_of}
use Rattle.report.specs.Texts.{image_line}
use Rattle.report.proofs.images.images_text.Given as goal

abbrev pub invariant-loop-image : goal.invariant-loop-image
invariant-loop-image l = string_bytes l.text ≡ flat_map image_line (map vector_of (take l.image-index l.images))
