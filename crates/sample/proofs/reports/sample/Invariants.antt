use Rattle.std.proofs.Common.{◌+◌, ◌*◌}
use Rattle.sample.specs.CountSizes.{AreCountsWithin, most_heights}
use Rattle.sample.specs.Samples.{IsSample}
use Rattle.sample.proofs.reports.sample.Given as goal

abbrev pub invariant-loop-i : goal.invariant-loop-i
invariant-loop-i l = record {
  is : IsSample l.i l.counts;
  within : AreCountsWithin (l.i * (most_heights + 1)) l.counts;
}
