use Rattle.std.proofs.Common.{map}
use Rattle.motions.specs.BasisView.{basis_of}
use Rattle.motions.specs.Views.{motion_of}
use Rattle.closure.specs.Groups.{group_listing}
use Rattle.penetration.specs.DirectionView.{direction_of}
use Rattle.penetration.proofs.RodSkewness.{skewed_tells}
use Rattle.penetration.proofs.skews.is_rod_skewed.Goals as goal

pub returns : goal.returns
returns c =
    let tells = skewed_tells (group_listing c.args.group.now) (direction_of c.args.direction.now) (basis_of c.args.dual.now.basis) (map motion_of c.ops.result.now) c.ops.ensures.ops in
    (λ t. tells.0 (c.is_skewed.ensures.0 t), λ k. c.is_skewed.ensures.1 (tells.1 k))
