-- The sum over the operations before the index.
use Rattle.std.proofs.Common.{◌≡◌, ◌*◌, map, take}
use Rattle.integers.specs.Size.{IsWithin}
use Rattle.motions.specs.BasisView.{basis_of}
use Rattle.motions.specs.Views.{motion_of, parts}
use Rattle.plane_lattice.specs.Bounds.{largest_scaled}
use Rattle.penetration.specs.DirectionView.{direction_of}
use Rattle.penetration.specs.RodFrames.{total_along}
use Rattle.penetration.specs.RodOperations.{rod_ops}
use Rattle.penetration.proofs.means.rod_total.Given as goal

abbrev pub invariant-loop-m : goal.invariant-loop-m
invariant-loop-m l = record {
  is : l.total ≡ total_along (direction_of l.direction) (basis_of l.dual.basis) (rod_ops (direction_of l.direction) (map motion_of (take l.m-index l.ops))) (parts l.v);
  small : IsWithin (l.m-index * largest_scaled) l.total;
}
