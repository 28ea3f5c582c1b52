use Rattle.std.proofs.Common.{take}
use Rattle.std.specs.List.{AllZip}
use Rattle.motions.specs.Views.{row_of}
use Rattle.plane_lattice.specs.FrameView.{basis_of_frame}
use Rattle.line_scans.specs.LineView.{IsLineHeightOf}
use Rattle.line_scans.proofs.make.line_heights.Given as goal

abbrev pub invariant-loop-height : goal.invariant-loop-height
invariant-loop-height l =
    AllZip (IsLineHeightOf (row_of l.fn.frame.plane) (basis_of_frame l.fn.frame) l.fn.frame.period.0) (take l.height-index l.special) l.heights.items
