use Rattle.std.proofs.Common.{arith}
use Rattle.std.proofs.lemmas.Nat.Gcd.{IsGcd-from_mod, IsGcd-from_zero}
use Rattle.fractions.proofs.Gcd.{gcd_is}
use Rattle.fractions.proofs.euclid.greatest_common_divisor.Goals as goal

pub loop-less-preserved : goal.loop-less-preserved
loop-less-preserved c g h = c.loop-less.invariant g (IsGcd-from_mod _ _ g h)

pub returns : goal.returns
returns c = record {
  is = gcd_is _ _ _ _ c.loop-less.invariant (omega arith);
  greatest = c.loop-less.invariant _ (IsGcd-from_zero _ _ (omega arith));
}
