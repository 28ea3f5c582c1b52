-- The operations before the index, moved.
use Rattle.std.proofs.Common.{take}
use Rattle.std.specs.List.{AllZip}
use Rattle.motions.specs.Views.{motion_of, row_of}
use Rattle.motions.specs.declared.motion.Motion3.{Motion3}
use Rattle.plane_lattice.specs.FrameView.{basis_of_frame}
use Rattle.scanning.specs.Conjugates.{IsMoved}
use Rattle.scanning.proofs.at.moved.Given as goal

abbrev pub invariant-loop-m : goal.invariant-loop-m
invariant-loop-m l =
    AllZip (λ (m n : Motion3). IsMoved (row_of l.frame.plane) (basis_of_frame l.frame) l.k (motion_of m) (motion_of n)) (take l.m-index l.ops) l.moved.items
