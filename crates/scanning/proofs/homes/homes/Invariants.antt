-- The motions so far are the same as the operations before the index, and at home.
use Rattle.std.proofs.Common.{map, take}
use Rattle.std.specs.Prelude.{All}
use Rattle.motions.specs.Views.{motion_of, row_of}
use Rattle.motions.specs.declared.motion.Motion3.{Motion3}
use Rattle.closure.specs.Groups.{group_listing}
use Rattle.plane_lattice.specs.FrameView.{basis_of_frame}
use Rattle.scanning.specs.Members.{AreSameMotions, IsHomeMotion}
use Rattle.scanning.proofs.homes.homes.Given as goal

abbrev pub invariant-loop-m : goal.invariant-loop-m
invariant-loop-m l = record {
  same : AreSameMotions (group_listing l.group) (map motion_of (take l.m-index l.m-items)) (map motion_of l.homes.items);
  home : All (λ (m : Motion3). IsHomeMotion (row_of l.frame.plane) (basis_of_frame l.frame) (motion_of m)) l.homes.items;
}
