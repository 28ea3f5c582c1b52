use Rattle.line_types.specs.Laws.FriezeLaws.{frieze_line_laws}
use Rattle.line_types.specs.Friezes.{frieze_line}
use Rattle.line_types.proofs.ShiftTests.{by_equal_home}
use Rattle.line_types.proofs.frieze_shifts.FriezeShiftsQuotient.is_shift.Goals as goal

pub returns : goal.returns
returns c = by_equal_home frieze_line frieze_line_laws c.args.m.now c.eq.ensures c.home.ensures.value c.identity.ensures
