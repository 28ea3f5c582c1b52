-- Each operation gives a row and its opposite.
use Rattle.std.proofs.Common.{map, ap, arith}
use Rattle.motions.specs.Views.{row_of, vector_of}
use Rattle.closure.specs.Groups.{group_listing}
use Rattle.orbits.proofs.RowLists.{motion_is_small}
use Rattle.surveys.proofs.ImageLists.{all_images, images_more, no_images}
use Rattle.surveys.proofs.RowSizes.{image_within}
use Rattle.surveys.proofs.images.images.Goals as goal

pub loop-m-init : goal.loop-m-init
loop-m-init c = (no_images (row_of c.args.plane.now) (map vector_of c.new-rows.result.items) (ap (map vector_of) c.new-rows.ensures.items), omega (arith, c.new-rows.ensures.len))

pub row_image-image-requires : goal.row_image-image-requires
row_image-image-requires c = motion_is_small _ c.ops-m-items.result.now c.loop-m.m-index _ c.ops-m-items.ensures.small c.loop-m-test.true

pub opposite_row-opposite-requires : goal.opposite_row-opposite-requires
opposite_row-opposite-requires c = image_within (row_of c.args.plane.now) _ _ c.row_image-image.ensures c.args.plane.now.in_range
    (motion_is_small _ c.ops-m-items.result.now c.loop-m.m-index _ c.ops-m-items.ensures.small c.loop-m-test.true).matrix

pub loop-m-preserved : goal.loop-m-preserved
loop-m-preserved c = (
  images_more (row_of c.args.plane.now) c.ops-m-items.result.now c.loop-m.m-index _ c.loop-m-test.true _ _ c.row_image-image.ensures c.opposite_row-opposite.ensures
      (map vector_of c.loop-m.rows.items) (map vector_of c.add_row.new.rows.items) (map vector_of c.add_row-in-loop-m.new.rows.items) c.loop-m.invariant.0
      c.in_ok-add_row.ensures.with c.in_ok-add_row-2.ensures.with,
  omega (arith, c.loop-m.invariant.1, c.in_ok-add_row.ensures.few, c.in_ok-add_row-2.ensures.few),
)

pub returns-clause-each : goal.returns-clause-each
returns-clause-each c =
    all_images (group_listing c.args.group.now) (row_of c.args.plane.now) c.ops-m-items.result.now c.loop-m.m-index (map vector_of c.loop-m.rows.items)
    c.ops-m-items.ensures.ops c.loop-m-test.false c.loop-m.invariant.0

pub returns-clause-few : goal.returns-clause-few
returns-clause-few c = omega (arith, c.loop-m.invariant.1, c.loop-m.auto.m-index-end, c.ops-m-items.ensures.few)
