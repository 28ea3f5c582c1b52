-- Each entry is a sum of three products.
use Rattle.std.proofs.Common.{◌*◌, arith, subst, sym}
use Rattle.symmetry.specs.Sizes.{IsVectorWithin}
use Rattle.symmetry.proofs.Sizes.{IsVectorWithin-more, image_within}
use Rattle.motions.proofs.motion.Motion3.image.Goals as goal

pub returns-clause-within : goal.returns-clause-within
returns-clause-within c n h =
    subst (IsVectorWithin (1500 * n)) (sym c.matrix_by_vector.ensures.is)
    (IsVectorWithin-more (image_within c.requires.motion.matrix h) (omega arith))
