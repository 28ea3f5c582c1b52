use Rattle.closure.proofs.Decisions.{keeps_decided}
use Rattle.closure.proofs.shifts.LatticeQuotient.keeps.Goals as goal

pub returns : goal.returns
returns c =
    keeps_decided c.args.self.now c.args.m.now c.residues.result.now c.residues.ensures.residues c.keeps_residues.result c.keeps_residues.ensures
