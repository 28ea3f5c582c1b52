use Rattle.closure.proofs.Decisions.{home_told}
use Rattle.closure.proofs.shifts.LatticeQuotient.home.Goals as goal

pub returns-clause-first : goal.returns-clause-first
returns-clause-first c =
    home_told c.args.self.now c.args.m.now c.residues.result.now c.residues.ensures.residues c.first_translation.result c.first_translation.ensures
