use Rattle.std.proofs.Common.{arith, map, take, get_or, Contains, List, []}
use Rattle.std.proofs.lemmas.List.Elements.{All-contains, All-weaker}
use Rattle.symmetry.specs.Motions.{Motion as MotionOfSpace, followed_by}
use Rattle.motions.specs.declared.motion.Motion3.{Motion3}
use Rattle.closure.specs.Operations.{HasSmallEntries}
use Rattle.motions.specs.Views.{listing_of, motion_of, parts}
use Rattle.closure.specs.Searches.{HasSame}
use Rattle.closure.proofs.Taken.{taken_more, taken_all, item_contained}
use Rattle.closure.proofs.Images.{more_then, still_same}
use Rattle.closure.proofs.generated_lattice.add_all_differences.Goals as goal

abbrev none : Motion3
none = record { w = []; t = [] }

pub add_differences-requires-clause-motion : goal.add_differences-requires-clause-motion
add_differences-requires-clause-motion c =
    let m = motion_of (get_or c.args.list.now c.loop-m.m-index none) in
    let s = All-contains HasSmallEntries (map motion_of c.args.list.now) m c.requires.list (item_contained motion_of c.args.list.now c.loop-m.m-index none (omega arith)) in
    s.small

pub loop-m-preserved : goal.loop-m-preserved
loop-m-preserved c =
    let kept = c.loop-m.invariant in
    let ok = c.in_ok-add_differences.ensures in
    let g = listing_of c.args.listed.now in
    let list = map motion_of c.args.list.now in
    let old = map parts c.loop-m.residues.items in
    let new = map parts c.add_differences.new.residues.items in
    let done : List Motion3 = take c.loop-m.m-index c.args.list.now in
    record {
      store = ok.store;
      more = more_then _ old new kept.more ok.more;
      inside = ok.inside;
      done = taken_more motion_of (λ (m : MotionOfSpace). (k : MotionOfSpace) → Contains g.ops k → HasSame list new (followed_by m k)) c.args.list.now c.loop-m.m-index none (omega arith)
          (All-weaker (λ (m : MotionOfSpace). (k : MotionOfSpace) → Contains g.ops k → HasSame list old (followed_by m k))
          (λ (m : MotionOfSpace). (k : MotionOfSpace) → Contains g.ops k → HasSame list new (followed_by m k))
          (λ m h k is. still_same list old new ok.more (followed_by m k) (h k is)) (map motion_of done) kept.done)
          ok.differences;
    }

pub returns-clause-differences : goal.returns-clause-differences
returns-clause-differences c m k stands is =
    let g = listing_of c.args.listed.now in
    let list = map motion_of c.args.list.now in
    let rs = map parts c.loop-m.residues.items in
    All-contains (λ (m : MotionOfSpace). (k : MotionOfSpace) → Contains g.ops k → HasSame list rs (followed_by m k)) list m
    (taken_all motion_of (λ (m : MotionOfSpace). (k : MotionOfSpace) → Contains g.ops k → HasSame list rs (followed_by m k)) c.args.list.now c.loop-m.m-index (omega arith) c.loop-m.invariant.done)
    stands k is
