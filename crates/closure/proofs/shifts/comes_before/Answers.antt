use Rattle.std.proofs.Common.{◌∙◌}
use Rattle.closure.proofs.Sorting.{lt-parts}
use Rattle.closure.proofs.shifts.comes_before.Goals as goal

pub returns : goal.returns
returns c = c.lt.ensures ∙ lt-parts c.args.residue.now c.args.other.now c.requires.residue c.requires.other
