use Rattle.closure.proofs.Decisions.{shift_decided}
use Rattle.closure.proofs.shifts.LatticeQuotient.is_shift.Goals as goal

pub returns-then-is_translation : goal.returns-then-is_translation
returns-then-is_translation c =
    shift_decided c.args.self.now c.args.m.now c.residues.result.now c.residues.ensures.residues c.lists_residue.result c.lists_residue.ensures
    (c.is_translation.ensures.0 c.if-is_translation.true)
