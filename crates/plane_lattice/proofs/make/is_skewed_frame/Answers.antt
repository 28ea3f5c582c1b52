-- The operations are those of the group.
use Rattle.std.proofs.Common.{map}
use Rattle.motions.specs.BasisView.{basis_of}
use Rattle.motions.specs.Views.{motion_of, row_of}
use Rattle.closure.specs.Groups.{group_listing}
use Rattle.plane_lattice.proofs.Skewness.{skewed_tells}
use Rattle.plane_lattice.proofs.make.is_skewed_frame.Goals as goal

pub returns : goal.returns
returns c =
    let tells = skewed_tells (group_listing c.args.group.now) (row_of c.args.plane.now) (basis_of c.args.dual.now.basis) (map motion_of c.ops.result.now) c.ops.ensures.ops in
    (λ t. tells.0 (c.is_skewed.ensures.0 t), λ k. c.is_skewed.ensures.1 (tells.1 k))
