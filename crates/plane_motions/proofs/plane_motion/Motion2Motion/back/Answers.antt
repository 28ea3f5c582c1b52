use Rattle.motions.specs.Layers.{planar_of}
use Rattle.plane_motions.specs.PlaneMotions.{plane_of}
use Rattle.plane_motions.proofs.PlaneBlocks.{no_inverse}
use Rattle.plane_motions.proofs.plane_motion.Motion2Motion.back.Goals as goal

pub returns-in_err-m : goal.returns-in_err-m
returns-in_err-m c =
    rw c.from_residual.ensures (no_inverse (plane_of c.args.self.now) (planar_of c.in_layer.result) c.in_layer.ensures c.in_err-m.ensures)
