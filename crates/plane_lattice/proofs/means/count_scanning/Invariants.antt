use Rattle.std.proofs.Common.{◌≡◌, ◌≤◌, length, map, take}
use Rattle.motions.specs.Views.{motion_of, row_of}
use Rattle.plane_lattice.specs.Scanning.{scanning_ops}
use Rattle.plane_lattice.proofs.means.count_scanning.Given as goal

abbrev pub invariant-loop-m : goal.invariant-loop-m
invariant-loop-m l = record {
  is : l.count ≡ length (scanning_ops (row_of l.plane) (map motion_of (take l.m-index l.ops)));
  few : l.count ≤ l.m-index;
}
