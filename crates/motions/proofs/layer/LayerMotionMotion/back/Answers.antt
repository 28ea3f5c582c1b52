-- The inverse of the matrix, and the translation taken back by it.
use Rattle.std.proofs.Common.{◌∙◌, ap, refl}
use Rattle.motions.specs.PlaneMatrices.{opposite2}
use Rattle.motions.specs.Layers.{planar_of}
use Rattle.motions.proofs.PlaneCofactors.{planar_undone}
use Rattle.motions.proofs.layer.LayerMotionMotion.back.Goals as goal

pub returns : goal.returns
returns c =
    let inverse = c.in_ok-a.ensures.inverse in
    planar_undone (planar_of c.args.self.now) (planar_of (record { a = c.in_ok-a.a; e = c.args.self.now.e; t = c.negative2.result })) inverse.0 inverse.1 refl
    (c.negative2.ensures ∙ ap opposite2 c.image2-image.ensures.is)
