-- The divisor is within the range of the three numbers, so its type holds it.
use Rattle.std.proofs.Common.{◌≡◌, ◌≤◌, ◌∙◌, ap, subst, arith, unsigned_abs, w64, to_z}
use Rattle.std.proofs.lemmas.Int.{ints, to_z-of_z}
use Rattle.motions.specs.Divisors.{IsGreatestDivisor}
use Rattle.motions.specs.declared.miller.TheConstants.{INDEX}
use Rattle.motions.proofs.Indices.{row, greatest_of_three, greatest_within}
use Rattle.motions.proofs.miller.common_divisor.Goals as goal
use Rattle.motions.proofs.miller.common_divisor.Goals.{After-greatest_common_divisor}

divisor : (c : After-greatest_common_divisor) → IsGreatestDivisor c.greatest_common_divisor.result (row c.args.h c.args.k c.args.l)
divisor c =
    greatest_of_three (row c.args.h c.args.k c.args.l)
    (c.into.ensures ∙ c.unsigned_abs.ensures.value ∙ ap unsigned_abs (to_z-of_z w64 c.args.h c.ranges.h))
    (c.into-2.ensures ∙ c.unsigned_abs-2.ensures.value ∙ ap unsigned_abs (to_z-of_z w64 c.args.k c.ranges.k))
    (c.into-3.ensures ∙ c.unsigned_abs-3.ensures.value ∙ ap unsigned_abs (to_z-of_z w64 c.args.l c.ranges.l))
    c.greatest_common_divisor-of_two.ensures.greatest c.greatest_common_divisor.ensures.greatest

small : (c : After-greatest_common_divisor) → c.greatest_common_divisor.result ≤ unsigned_abs INDEX
small c = greatest_within (unsigned_abs INDEX) c.greatest_common_divisor.result (row c.args.h c.args.k c.args.l) c.requires (divisor c)

pub overflow_cast-result : goal.overflow_cast-result
overflow_cast-result c = let le = small c in omega (arith, ints)

pub returns-clause-is : goal.returns-clause-is
returns-clause-is c =
    let le = small c in
    let e : c.greatest_common_divisor.result ≡ unsigned_abs (to_z w64 c.greatest_common_divisor.result) = omega (arith, ints) in
    subst (λ g. IsGreatestDivisor g (row c.args.h c.args.k c.args.l)) e (divisor c)

pub returns-clause-size : goal.returns-clause-size
returns-clause-size c = let le = small c in omega (arith, ints)
