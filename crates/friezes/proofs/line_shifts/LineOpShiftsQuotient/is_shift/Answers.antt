use Rattle.friezes.proofs.Shifts.{by_equal_home}
use Rattle.friezes.proofs.line_shifts.LineOpShiftsQuotient.is_shift.Goals as goal

pub returns : goal.returns
returns c = by_equal_home c.args.m.now c.eq.ensures c.home.ensures.value c.identity.ensures
