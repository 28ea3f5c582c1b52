-- The step is the quotient.
use Rattle.line_scans.proofs.FoundOps.{some_quotient, step_fits, step_found}
use Rattle.line_scans.proofs.viewpoint.Viewpoint.at.Goals as goal

pub unreachable-requires : goal.unreachable-requires
unreachable-requires c =
    let height = c.args.height.now in
    some_quotient c.args.frame.now height.level c.from.result c.from-2.result height.in_range c.from.ensures c.from-2.ensures c.requires.0 c.requires.1 c.in_default.ensures.is

pub overflow_cast-result : goal.overflow_cast-result
overflow_cast-result c =
    let height = c.args.height.now in
    step_fits c.args.frame.now height.level c.from.result c.from-2.result height.in_range c.from.ensures c.from-2.ensures c.requires.0 c.requires.1 c.in-Some.step c.in-Some.ensures.is

pub invariant_of-result : goal.invariant_of-result
invariant_of-result c =
    let height = c.args.height.now in
    let step = step_found c.args.frame.now height.level c.from.result c.from-2.result height.in_range c.from.ensures c.from-2.ensures c.requires.0 c.requires.1 c.in-Some.step c.in-Some.ensures.is in
    record { from = step.from; below = step.below }

pub returns-clause-step : goal.returns-clause-step
returns-clause-step c =
    let height = c.args.height.now in
    step_found c.args.frame.now height.level c.from.result c.from-2.result height.in_range c.from.ensures c.from-2.ensures c.requires.0 c.requires.1 c.in-Some.step c.in-Some.ensures.is
