use Rattle.std.proofs.Common.{lit≤}
use Rattle.std.proofs.Math.Nat.{eq-one_of_dvd-one}
use Rattle.sample.proofs.frame.upright.Goals as goal

pub invariant_of-result : goal.invariant_of-result
invariant_of-result c = record {
  coprime = λ d x y z. eq-one_of_dvd-one z;
  in_range = record { x = record { most = lit≤ tt }; y = record { most = lit≤ tt }; z = record { most = lit≤ tt } };
}
