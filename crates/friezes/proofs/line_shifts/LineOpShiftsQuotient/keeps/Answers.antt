use Rattle.std.proofs.Common.{refl}
use Rattle.friezes.specs.Laws.ShiftLaws.{keeps}
use Rattle.friezes.specs.Lines.{line_of}
use Rattle.friezes.proofs.line_shifts.LineOpShiftsQuotient.keeps.Goals as goal

pub returns : goal.returns
returns c = (λ _. keeps (line_of c.args._m.now), λ _. refl)
