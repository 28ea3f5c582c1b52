use Rattle.std.proofs.Common.{nat_abs}
use Rattle.reduction.proofs.bezout.+bezout_positive.Given as goal

abbrev pub decreases-bezout_positive : goal.decreases-bezout_positive
decreases-bezout_positive l = nat_abs l.q
