use Rattle.line_types.specs.Laws.RodLaws.{rod_line_laws}
use Rattle.line_types.specs.Rods.{rod_line}
use Rattle.line_types.proofs.ShiftTests.{by_equal_home}
use Rattle.line_types.proofs.rod_shifts.RodShiftsQuotient.is_shift.Goals as goal

pub returns : goal.returns
returns c = by_equal_home rod_line rod_line_laws c.args.m.now c.eq.ensures c.home.ensures.value c.identity.ensures
