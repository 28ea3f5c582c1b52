use Rattle.motions.specs.Views.{motion_of, row_of}
use Rattle.surveys.proofs.RowSizes.{image_within}
use Rattle.surveys.proofs.representatives.has_greater_image.Goals as goal

pub opposite_row-requires : goal.opposite_row-requires
opposite_row-requires c =
    image_within (row_of c.args.plane.now) (motion_of c.args.m.now).matrix _ c.row_image-image.ensures c.args.plane.now.in_range c.requires.matrix
