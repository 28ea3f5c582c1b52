use Rattle.std.proofs.Common.{◌≤◌, ◌-◌, All, map, take, vec_len}
use Rattle.closure.specs.Operations.{HasSmallEntries}
use Rattle.motions.specs.Views.{listing_of, motion_of}
use Rattle.closure.specs.Searches.{AreFound, HasNext}
use Rattle.closure.proofs.matrices.generated_matrices.Given as goal

abbrev pub invariant-loop-i : goal.invariant-loop-i
invariant-loop-i l = record {
  small : All HasSmallEntries (map motion_of l.found.items);
  few : vec_len l.found ≤ 48;
  within : l.i ≤ vec_len l.found;
  found : AreFound (listing_of l.listed) (map motion_of l.found.items);
  next : All (HasNext (listing_of l.listed) (map motion_of l.found.items)) (take l.i (map motion_of l.found.items));
}

abbrev pub decreases-loop-i : goal.decreases-loop-i
decreases-loop-i l = 48 - l.i
