use Rattle.std.proofs.Common.{arith, map, get_or, Contains, []}
use Rattle.symmetry.specs.Vectors.{image}
use Rattle.motions.specs.Views.{motion_of, parts}
use Rattle.closure.specs.Residues.{residue}
use Rattle.closure.proofs.Taken.{taken_more, taken_all, item_contained}
use Rattle.closure.proofs.Images.{moved_here, kept_here}
use Rattle.closure.proofs.generated_lattice.moved_by.Goals as goal

pub returns-then-not-lists_residue : goal.returns-then-not-lists_residue
returns-then-not-lists_residue c =
    moved_here (map parts c.args.residues.now) (motion_of c.args.m.now) _ (parts c.image.result) c.residue_of-image.result c.image.ensures.is c.residue_of-image.ensures.value
    c.lists_residue.result c.lists_residue.ensures (item_contained parts c.args.residues.now c.loop-r.r-index [] (omega arith)) c.residue_of-image.ensures.reduced c.if-not-lists_residue.true

pub loop-r-preserved : goal.loop-r-preserved
loop-r-preserved c =
    let rs = map parts c.args.residues.now in
    taken_more parts (λ r. Contains rs (residue (image (motion_of c.args.m.now).matrix r))) c.args.residues.now c.loop-r.r-index [] (omega arith) c.loop-r.invariant
    (kept_here rs (motion_of c.args.m.now) (parts (get_or c.args.residues.now c.loop-r.r-index [])) (parts c.image.result) c.residue_of-image.result c.image.ensures.is c.residue_of-image.ensures.value
    c.lists_residue.result c.lists_residue.ensures c.if-not-lists_residue.false)

pub returns : goal.returns
returns c =
    taken_all parts (λ r. Contains (map parts c.args.residues.now) (residue (image (motion_of c.args.m.now).matrix r))) c.args.residues.now c.loop-r.r-index (omega arith) c.loop-r.invariant
