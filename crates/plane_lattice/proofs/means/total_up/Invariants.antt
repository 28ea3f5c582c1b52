use Rattle.std.proofs.Common.{◌≡◌, ◌*◌, map, take}
use Rattle.symmetry.specs.Frames.{total_up}
use Rattle.symmetry.specs.Sizes.{IsVectorWithin}
use Rattle.motions.specs.Views.{motion_of, parts, row_of}
use Rattle.plane_lattice.specs.Bounds.{largest_turned}
use Rattle.plane_lattice.specs.Scanning.{scanning_ops}
use Rattle.plane_lattice.proofs.means.total_up.Given as goal

abbrev pub invariant-loop-m : goal.invariant-loop-m
invariant-loop-m l = record {
  is : parts l.total ≡ total_up (row_of l.plane) (parts l.tau) (scanning_ops (row_of l.plane) (map motion_of (take l.m-index l.ops)));
  small : IsVectorWithin (l.m-index * largest_turned) (parts l.total);
}
