-- The frame is that of the plane.
use Rattle.std.proofs.Common.{◌∙◌, ap, sym, subst}
use Rattle.std.specs.Prelude.{IfOk}
use Rattle.motions.specs.Views.{row_of}
use Rattle.motions.specs.declared.miller.Miller.{Miller}
use Rattle.closure.specs.Groups.{group_listing}
use Rattle.closure.proofs.OwnLattice.{own_listing}
use Rattle.line_frames.specs.LineFrames.{IsLineFrameOf}
use Rattle.line_frames.specs.Lines.{first_two}
use Rattle.line_scans.specs.LineScans.{IsLineScan}
use Rattle.line_scans.specs.LineView.{line_scan_of}
use Rattle.line_scans.proofs.make.lines.Goals as goal

pub lines_in-requires-clause-line : goal.lines_in-requires-clause-line
lines_in-requires-clause-line c =
    let group = c.args.group.now in
    ap (λ (p : Miller). p.l) (c.line_frame-frame.ensures (group_listing group) (own_listing group)).plane ∙ c.requires.line

pub lines_in-requires-clause-frame : goal.lines_in-requires-clause-frame
lines_in-requires-clause-frame c = λ g of.
    let made = c.line_frame-frame.ensures g of in
    subst (λ p. IsLineFrameOf g p c.line_frame-frame.result) (sym made.plane) made

pub returns-clause-is : goal.returns-clause-is
returns-clause-is c = λ g of.
    let made = c.line_frame-frame.ensures g of in
    subst (λ (p : Miller). IfOk c.lines_in.result (λ scan. IsLineScan g (first_two (row_of p)) (line_scan_of scan))) made.plane (c.lines_in.ensures.is g of)
