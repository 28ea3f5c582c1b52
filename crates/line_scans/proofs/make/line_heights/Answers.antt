use Rattle.std.proofs.Common.{ℤ, ap, sym, subst, ◌∙◌, take, ◌++◌, ◌∷◌, []}
use Rattle.std.proofs.lemmas.List.{take_more}
use Rattle.quotient.proofs.Zips.{zip_more}
use Rattle.motions.specs.Views.{row_of}
use Rattle.plane_lattice.specs.FrameView.{basis_of_frame}
use Rattle.scanning.specs.declared.height.Height.{Height}
use Rattle.line_scans.specs.LineOps.{IsStep}
use Rattle.line_scans.specs.LineView.{IsLineHeightOf}
use Rattle.line_scans.proofs.make.line_heights.Goals as goal

pub line_height-requires-clause-step : goal.line_height-requires-clause-step
line_height-requires-clause-step c =
    let item = c.height-item.result in
    subst (λ (h : Height). (k : ℤ) × IsStep c.args.frame.now.period.0 h.level k) (sym c.height-item.is)
    (c.requires.steps c.loop-height.height-index item c.loop-height-test.true)

pub loop-height-preserved : goal.loop-height-preserved
loop-height-preserved c =
    let frame = c.args.frame.now in
    let done = take c.loop-height.height-index c.args.special.now in
    zip_more (IsLineHeightOf (row_of frame.plane) (basis_of_frame frame) frame.period.0) done _ c.height-item.result c.loop-height.heights.items _ _
    (take_more c.args.special.now c.loop-height.height-index c.height-item.result c.loop-height-test.true ∙ ap (λ h. done ++ h ∷ []) (sym c.height-item.is))
    c.in_ok-push.ensures.items c.loop-height.invariant c.in_ok-line_height.ensures
