use Rattle.std.proofs.Common.{◌++◌, ap, sym, subst, ◌∙◌, arith}
use Rattle.std.specs.Prelude.{string_bytes}
use Rattle.fractions.specs.FractionOf.{fraction_of}
use Rattle.triplets.proofs.TextLines.{one_line_more}
use Rattle.plane_lattice.specs.SmallHeights.{IsSmallHeight}
use Rattle.line_scans.specs.LineView.{line_height_of, line_scan_of}
use Rattle.line_reports.specs.LineTexts.{height_text}
use Rattle.line_reports.proofs.text.write_heights.Goals as goal

pub write_height-requires-clause-height : goal.write_height-requires-clause-height
write_height-requires-clause-height c =
    let height = c.height-item.result in
    subst (λ h. IsSmallHeight (fraction_of h.s)) (sym c.height-item.is) (c.requires.heights c.loop-height.height-index height (omega arith))

pub loop-height-preserved : goal.loop-height-preserved
loop-height-preserved c =
    let height = c.height-item.result in
    let line = height_text (line_scan_of c.args.scan.now) in
    c.in_ok-write_height.ensures
    ∙ ap (λ h. (string_bytes c.loop-height.text) ++ line (line_height_of h)) c.height-item.is
    ∙ one_line_more line line_height_of (string_bytes c.args.text.now) (string_bytes c.loop-height.text) c.args.heights.now c.loop-height.height-index height (omega arith) c.loop-height.invariant
