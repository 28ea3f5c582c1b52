use Rattle.std.proofs.Common.{[], arith}
use Rattle.std.proofs.lemmas.List.{map_more}
use Rattle.symmetry.specs.Sizes.{IsSmall}
use Rattle.quotient.proofs.Zips.{zip_more}
use Rattle.motions.specs.Views.{motion_of, row_of}
use Rattle.plane_lattice.specs.FrameView.{basis_of_frame}
use Rattle.line_scans.specs.LineOps.{HasLineOp, IsLineOp}
use Rattle.line_scans.proofs.section.line_ops.Goals as goal
use Rattle.quotient.proofs.Items.{All-item_at}

pub line_op-requires-clause-motion : goal.line_op-requires-clause-motion
line_op-requires-clause-motion c = All-item_at motion_of c.args.ops.now IsSmall c.loop-m.m-index (record { w = []; t = [] }) c.requires.small (omega arith)

pub line_op-requires-clause-line : goal.line_op-requires-clause-line
line_op-requires-clause-line c =
    let point = c.args.point.now in
    All-item_at motion_of c.args.ops.now (HasLineOp (row_of point.frame.plane) (basis_of_frame point.frame) point.step) c.loop-m.m-index
    (record { w = []; t = [] }) c.requires.lines (omega arith)

pub loop-m-preserved : goal.loop-m-preserved
loop-m-preserved c =
    let point = c.args.point.now in
    zip_more (IsLineOp (row_of point.frame.plane) (basis_of_frame point.frame) point.step) _ _ _ _ _ _
    (map_more motion_of c.args.ops.now c.loop-m.m-index _ (omega arith)) c.in_ok-push.ensures.items c.loop-m.invariant c.line_op.ensures
