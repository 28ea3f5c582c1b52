use Rattle.std.proofs.Common.{◌↔◌, IsTrue, subst}
use Rattle.quotient.specs.Kind.{Keeps}
use Rattle.motions.specs.Views.{motion_of}
use Rattle.closure.specs.Laws.ShiftLaws.{modulo}
use Rattle.closure.proofs.group_shifts.GroupQuotient.keeps.Goals as goal

pub returns : goal.returns
returns c = subst (λ lattice. IsTrue c.keeps.result ↔ Keeps (modulo lattice) (motion_of c.args.m.now)) c.lattice.ensures.lattice c.keeps.ensures
