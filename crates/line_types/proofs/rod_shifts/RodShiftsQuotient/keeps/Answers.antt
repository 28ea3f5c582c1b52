use Rattle.std.proofs.Common.{refl}
use Rattle.motions.specs.RodMotions.{rod_of}
use Rattle.line_types.specs.Laws.LineLaws.{keeps}
use Rattle.line_types.specs.Laws.RodLaws.{rod_line_laws}
use Rattle.line_types.specs.Rods.{rod_line}
use Rattle.line_types.proofs.rod_shifts.RodShiftsQuotient.keeps.Goals as goal

pub returns : goal.returns
returns c = (λ _. keeps rod_line rod_line_laws (rod_of c.args._m.now), λ _. refl)
