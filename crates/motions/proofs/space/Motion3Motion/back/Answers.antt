-- The inverse of the matrix, and the translation taken back by it.
use Rattle.std.proofs.Common.{◌∙◌, ap}
use Rattle.symmetry.specs.Vectors.{opposite}
use Rattle.motions.specs.Views.{motion_of}
use Rattle.motions.proofs.Cofactors.{undone}
use Rattle.motions.proofs.space.Motion3Motion.back.Goals as goal

pub returns : goal.returns
returns c =
    let inverse = c.in_ok-w.ensures.inverse in
    undone (motion_of c.args.self.now) (motion_of (record { w = c.in_ok-w.w; t = c.opposite.result })) inverse.0 inverse.1
    (c.opposite.ensures ∙ ap opposite c.matrix_by_vector-image.ensures.is)
