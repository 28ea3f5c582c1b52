use Rattle.std.proofs.Common.{ap, arith, get_or, ◌∙◌}
use Rattle.std.specs.Prelude.{is_none}
use Rattle.sample.proofs.CountSteps.{counted, no_type, not_counted}
use Rattle.sample.proofs.counts.unrecognised_sections.Goals as goal
use Rattle.sample.proofs.counts.unrecognised_sections.Goals.{then-is_none-2, else-is_none-2}

pub loop-height-preserved : goal.loop-height-preserved
loop-height-preserved c =
    let report = c.args.report.now in
    let i = c.loop-height.height-index in
    let h = c.height-item.result in
    let tested = no_type h.section.found c.is_none-in-loop-height.result c.is_none-in-loop-height.ensures in
    let is = c.height-item.is ∙ ap (λ hs. get_or hs i h) c.deref-height-items.ensures.value in
    elim c.if-is_none-2.branch [
      | then-is_none-2 w ↦ counted report is_none i h (omega arith) is c.loop-height.unrecognised c.if-is_none-2.unrecognised c.loop-height.invariant w.unrecognised-is (tested ∙ w.if-is_none-2.true)
      | else-is_none-2 w ↦ not_counted report is_none i h (omega arith) is c.loop-height.unrecognised c.if-is_none-2.unrecognised c.loop-height.invariant w.unrecognised-is (tested ∙ w.if-is_none-2.false)
    ]
