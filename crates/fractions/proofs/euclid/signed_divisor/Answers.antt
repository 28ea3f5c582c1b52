use Rattle.std.proofs.Common.{arith}
use Rattle.std.proofs.lemmas.Int.{ints}
use Rattle.fractions.proofs.Divisor.{divisor_fits, negative_fits, negative_divisor, positive_divisor}
use Rattle.fractions.proofs.euclid.signed_divisor.Goals as goal

pub overflow_cast-divisor : goal.overflow_cast-divisor
overflow_cast-divisor c =
    divisor_fits c.args.num c.args.den c.unsigned_abs.result c.unsigned_abs-2.result c.greatest_common_divisor-divisor.result (assumption c)

pub overflow_sub-result : goal.overflow_sub-result
overflow_sub-result c =
    negative_fits c.args.num c.args.den c.unsigned_abs.result c.unsigned_abs-2.result c.greatest_common_divisor-divisor.result (assumption c)

pub returns-then-den-lt0 : goal.returns-then-den-lt0
returns-then-den-lt0 c =
    negative_divisor c.args.num c.args.den c.unsigned_abs.result c.unsigned_abs-2.result c.greatest_common_divisor-divisor.result (assumption c) (omega (arith, ints))

pub returns-else-den-lt0 : goal.returns-else-den-lt0
returns-else-den-lt0 c =
    positive_divisor c.args.num c.args.den c.unsigned_abs.result c.unsigned_abs-2.result c.greatest_common_divisor-divisor.result (assumption c) (omega (arith, ints))
