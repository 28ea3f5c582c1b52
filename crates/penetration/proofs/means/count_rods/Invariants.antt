use Rattle.std.proofs.Common.{◌≡◌, ◌≤◌, length, map, take}
use Rattle.motions.specs.Views.{motion_of}
use Rattle.penetration.specs.DirectionView.{direction_of}
use Rattle.penetration.specs.RodOperations.{rod_ops}
use Rattle.penetration.proofs.means.count_rods.Given as goal

abbrev pub invariant-loop-m : goal.invariant-loop-m
invariant-loop-m l = record {
  is : l.count ≡ length (rod_ops (direction_of l.direction) (map motion_of (take l.m-index l.ops)));
  few : l.count ≤ l.m-index;
}
