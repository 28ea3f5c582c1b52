-- The image is at most 1500 times as large.
use Rattle.std.proofs.Common.{lit≤}
use Rattle.symmetry.proofs.Sizes.{IsVectorWithin-more}
use Rattle.plane_lattice.specs.Bounds.{largest_entry}
use Rattle.plane_lattice.proofs.images.image.Goals as goal

pub returns : goal.returns
returns c =
    let small = c.image.ensures.within largest_entry c.requires.vector in
    record { is = c.image.ensures.is; small = small; within_reach = IsVectorWithin-more small (lit≤ tt) }
