use Rattle.std.proofs.Common.{refl}
use Rattle.motions.specs.FriezeMotions.{frieze_of}
use Rattle.line_types.specs.Laws.LineLaws.{keeps}
use Rattle.line_types.specs.Laws.FriezeLaws.{frieze_line_laws}
use Rattle.line_types.specs.Friezes.{frieze_line}
use Rattle.line_types.proofs.frieze_shifts.FriezeShiftsQuotient.keeps.Goals as goal

pub returns : goal.returns
returns c = (λ _. keeps frieze_line frieze_line_laws (frieze_of c.args._m.now), λ _. refl)
