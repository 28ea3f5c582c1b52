use Rattle.quotient.specs.Modulo.{modulo}
use Rattle.quotient.proofs.Sameness.{same_is_equivalence}
use Rattle.quotient.proofs.laws.sameness_is_an_equivalence.Goals as goal

pub returns : goal.returns
returns g c =
    let M = g.Q.M.Motion in
    same_is_equivalence (modulo M (g.Q.Quotient.IsShift c.args.q.now)) g.met.Q.M.Motion.monoid (g.met.Q.Quotient.shifts c.args.q.now)
