use Rattle.std.proofs.Common.{map, take}
use Rattle.std.specs.List.{AllZip}
use Rattle.motions.specs.Views.{motion_of, row_of}
use Rattle.plane_lattice.specs.FrameView.{basis_of_frame}
use Rattle.line_scans.specs.LineOps.{IsLineOp}
use Rattle.line_scans.proofs.section.line_ops.Given as goal

abbrev pub invariant-loop-m : goal.invariant-loop-m
invariant-loop-m l =
    AllZip (IsLineOp (row_of l.fn.point.frame.plane) (basis_of_frame l.fn.point.frame) l.fn.point.step) (map motion_of (take l.m-index l.ops)) l.section.items
