use Rattle.std.proofs.Common.{◌∙◌}
use Rattle.closure.proofs.Membership.{list_any-parts}
use Rattle.closure.proofs.residues.lists_residue.Goals as goal

pub returns : goal.returns
returns c =
    let r = c.residue_of.ensures in
    c.contains.ensures.value ∙ list_any-parts c.args.residues.now c.residue_of.result _ c.told-residues r.reduced.three r.value
