use Rattle.std.proofs.Common.{◌≤◌, All, map, take, vec_len}
use Rattle.symmetry.specs.Motions.{Motion as MotionOfSpace, followed_by}
use Rattle.closure.specs.Operations.{HasSmallEntries}
use Rattle.motions.specs.Views.{listing_of, motion_of}
use Rattle.closure.specs.ClosedLists.{HasMatrixOf}
use Rattle.closure.specs.Searches.{AreFound, GoesOn}
use Rattle.closure.proofs.matrices.add_products.Given as goal

abbrev pub invariant-loop-k : goal.invariant-loop-k
invariant-loop-k l = record {
  small : All HasSmallEntries (map motion_of l.found.items);
  few : vec_len l.found ≤ 48;
  more : GoesOn (map motion_of l.fn.found.items) (map motion_of l.found.items);
  found : AreFound (listing_of l.listed) (map motion_of l.found.items);
  next : All (λ (k : MotionOfSpace). HasMatrixOf (map motion_of l.found.items) (followed_by (motion_of l.m) k)) (map motion_of (take l.k-index l.listed.ops.items));
}
