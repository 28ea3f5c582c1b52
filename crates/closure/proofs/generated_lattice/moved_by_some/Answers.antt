use Rattle.std.proofs.Common.{arith, map, get_or, []}
use Rattle.std.proofs.lemmas.List.Elements.{All-contains}
use Rattle.motions.specs.declared.motion.Motion3.{Motion3}
use Rattle.closure.specs.Operations.{HasSmallEntries}
use Rattle.motions.specs.Views.{motion_of, parts}
use Rattle.closure.specs.Searches.{KeepsResidues}
use Rattle.closure.proofs.Taken.{taken_more, taken_all, item_contained}
use Rattle.closure.proofs.generated_lattice.moved_by_some.Goals as goal

abbrev none : Motion3
none = record { w = []; t = [] }

pub moved_by-requires-clause-motion : goal.moved_by-requires-clause-motion
moved_by-requires-clause-motion c =
    let m = motion_of (get_or c.args.list.now c.loop-m.m-index none) in
    let s = All-contains HasSmallEntries (map motion_of c.args.list.now) m c.requires.list (item_contained motion_of c.args.list.now c.loop-m.m-index none (omega arith)) in
    s.small

pub returns-in-Some : goal.returns-in-Some
returns-in-Some c = (motion_of (get_or c.args.list.now c.loop-m.m-index none), item_contained motion_of c.args.list.now c.loop-m.m-index none (omega arith), c.in-Some.ensures)

pub loop-m-preserved : goal.loop-m-preserved
loop-m-preserved c =
    taken_more motion_of (KeepsResidues (map parts c.args.residues.now)) c.args.list.now c.loop-m.m-index none (omega arith) c.loop-m.invariant c.in_default.ensures

pub returns : goal.returns
returns c m is =
    All-contains (KeepsResidues (map parts c.args.residues.now)) (map motion_of c.args.list.now) m
    (taken_all motion_of (KeepsResidues (map parts c.args.residues.now)) c.args.list.now c.loop-m.m-index (omega arith) c.loop-m.invariant) is
