use Rattle.std.proofs.Common.{◌++◌, ap, sym, subst, ◌∙◌, arith}
use Rattle.std.specs.Prelude.{string_bytes}
use Rattle.fractions.specs.FractionOf.{fraction_of}
use Rattle.triplets.proofs.TextLines.{one_line_more}
use Rattle.plane_lattice.specs.SmallHeights.{IsSmallHeight}
use Rattle.report.specs.ReportView.{report_of}
use Rattle.report.specs.SectionView.{block_of}
use Rattle.report.specs.Texts.{height_text}
use Rattle.report.proofs.text.write_heights.Goals as goal

pub write_height-requires : goal.write_height-requires
write_height-requires c =
    let height = c.height-item.result in
    subst (λ h. IsSmallHeight (fraction_of h.s)) (sym c.height-item.is) (c.requires c.loop-height.height-index height (omega arith))

pub loop-height-preserved : goal.loop-height-preserved
loop-height-preserved c =
    let height = c.height-item.result in
    let line = height_text (report_of c.args.report.now) in
    c.in_ok-write_height.ensures
    ∙ ap (λ h. (string_bytes c.loop-height.text) ++ line (block_of h)) c.height-item.is
    ∙ one_line_more line block_of (string_bytes c.args.text.now) (string_bytes c.loop-height.text) c.args.heights.now c.loop-height.height-index height (omega arith) c.loop-height.invariant
