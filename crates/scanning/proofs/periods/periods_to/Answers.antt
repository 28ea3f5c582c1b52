-- The difference is exact, so its quotient is that of the definition.
use Rattle.scanning.proofs.Shifts.{apart_fits, count_fits, count_is, count_small, no_periods}
use Rattle.scanning.proofs.periods.periods_to.Goals as goal

pub overflow_sub-apart : goal.overflow_sub-apart
overflow_sub-apart c = apart_fits c.args.asked c.shift.result _ c.shift.ensures c.requires.asked c.requires.translation

pub returns-in_err-periods-clause-is : goal.returns-in_err-periods-clause-is
returns-in_err-periods-clause-is c =
    let none = no_periods c.args.frame.now c.args.asked c.shift.result _ c.from.result c.from-2.result c.from.ensures c.from-2.ensures c.shift.ensures
    c.requires.asked c.requires.translation c.in_err-periods.ensures.is in
    rw c.from_residual.ensures none

pub overflow_cast-result : goal.overflow_cast-result
overflow_cast-result c =
    count_fits c.args.frame.now c.args.asked c.shift.result _ c.from.result c.from-2.result c.from.ensures c.from-2.ensures c.shift.ensures
    c.requires.asked c.requires.translation c.in_ok-periods.periods c.in_ok-periods.ensures.is c.in_ok-periods.ensures.small

pub returns-clause-is : goal.returns-clause-is
returns-clause-is c =
    count_is c.args.frame.now c.args.asked c.shift.result _ c.from.result c.from-2.result c.from.ensures c.from-2.ensures c.shift.ensures
    c.requires.asked c.requires.translation c.in_ok-periods.periods c.in_ok-periods.ensures.is c.in_ok-periods.ensures.small

pub returns-clause-small : goal.returns-clause-small
returns-clause-small c =
    count_small c.args.frame.now c.args.asked c.shift.result _ c.from.result c.from-2.result c.from.ensures c.from-2.ensures c.shift.ensures
    c.requires.asked c.requires.translation c.in_ok-periods.periods c.in_ok-periods.ensures.is c.in_ok-periods.ensures.small
