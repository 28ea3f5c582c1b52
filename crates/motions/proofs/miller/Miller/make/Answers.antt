-- In range, the greatest common divisor decides: 0, 1 or more.
use Rattle.std.proofs.Common.{◌≡◌, ◌∙◌, sym, subst, arith, pos, ◌<ℤ◌, unsigned_abs, w64}
use Rattle.std.proofs.lemmas.Int.{ints, to_z-of_z}
use Rattle.integers.proofs.Coded.{again}
use Rattle.motions.specs.Divisors.{IsGreatestDivisor}
use Rattle.motions.specs.PlaneFaults.{IsPlaneFault}
use Rattle.motions.specs.declared.miller.TheConstants.{INDEX}
use Rattle.motions.specs.declared.miller.PlaneFault.TheVariants.{AllZero, NotCoprime}
use Rattle.symmetry.specs.Sizes.{IsVectorWithin}
use Rattle.motions.proofs.Indices.{row, passed, refused, no_fault, coprime_by_greatest, origin_by_greatest}
use Rattle.motions.proofs.miller.Miller.make.Goals as goal

pub invariant_of-result : goal.invariant_of-result
invariant_of-result c =
    let one : c.common_divisor.result ≡ pos 1 = omega (arith, ints) in
    record { coprime = coprime_by_greatest _ one c.common_divisor.ensures.is; in_range = c.are_in_range.ensures.0 c.if-not-are_in_range.false }

pub returns-in-0-clause-faults : goal.returns-in-0-clause-faults
returns-in-0-clause-faults c =
    let zero : c.common_divisor.result ≡ pos 0 = omega (arith, ints) in
    let given = passed c.ranges.h c.ranges.k c.ranges.l in
    refused (row c.args.h c.args.k c.args.l) AllZero (sym given ∙ origin_by_greatest _ zero c.common_divisor.ensures.is)

pub returns-in-1-clause-faults : goal.returns-in-1-clause-faults
returns-in-1-clause-faults c fault =
    let one : c.common_divisor.result ≡ pos 1 = omega (arith, ints) in
    let given = passed c.ranges.h c.ranges.k c.ranges.l in
    let within = subst (IsVectorWithin (unsigned_abs INDEX)) given (c.are_in_range.ensures.0 c.if-not-are_in_range.false) in
    let divisor = subst (IsGreatestDivisor (unsigned_abs c.common_divisor.result)) given c.common_divisor.ensures.is in
    (λ q. absurd (cc q), λ h. absurd (no_fault (row c.args.h c.args.k c.args.l) (coprime_by_greatest _ one divisor) within fault h))

pub returns-in_default-clause-faults : goal.returns-in_default-clause-faults
returns-in_default-clause-faults c =
    let more : pos 1 <ℤ c.common_divisor.result = omega (arith, ints) in
    let given = passed c.ranges.h c.ranges.k c.ranges.l in
    let within = subst (IsVectorWithin (unsigned_abs INDEX)) given (c.are_in_range.ensures.0 c.if-not-are_in_range.false) in
    let divisor = subst (IsGreatestDivisor (unsigned_abs c.common_divisor.result)) given c.common_divisor.ensures.is in
    let kept = sym (to_z-of_z w64 c.common_divisor.result (record { sfits = c.common_divisor.type_inv })) in
    let r = row c.args.h c.args.k c.args.l in
    refused r (NotCoprime (again c.common_divisor.result)) (subst (λ g. IsPlaneFault r (NotCoprime g)) kept (within, divisor, more))
