use Rattle.std.proofs.Common.{ap, arith, get_or, sym, ◌∙◌}
use Rattle.sample.specs.Counted.{has_number}
use Rattle.sample.proofs.CountSteps.{counted, not_counted}
use Rattle.sample.proofs.counts.own_sections.Goals as goal
use Rattle.sample.proofs.counts.own_sections.Goals.{then-has_number-2, else-has_number-2}

pub loop-height-preserved : goal.loop-height-preserved
loop-height-preserved c =
    let report = c.args.report.now in
    let i = c.loop-height.height-index in
    let h = c.height-item.result in
    let tested = c.has_number-in-loop-height.ensures in
    let is = c.height-item.is ∙ ap (λ hs. get_or hs i h) c.deref-height-items.ensures.value in
    elim c.if-has_number-2.branch [
      | then-has_number-2 w ↦ counted report (has_number c.args.number) i h (omega arith) is c.loop-height.own c.if-has_number-2.own c.loop-height.invariant w.own-is (sym tested ∙ w.if-has_number-2.true)
      | else-has_number-2 w ↦ not_counted report (has_number c.args.number) i h (omega arith) is c.loop-height.own c.if-has_number-2.own c.loop-height.invariant w.own-is (sym tested ∙ w.if-has_number-2.false)
    ]
