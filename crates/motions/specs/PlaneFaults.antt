-- What is wrong with three numbers that are no Miller indices.
use Rattle.std.specs.Prelude.{◌≡◌, pos, ◌<ℤ◌, unsigned_abs}
use Rattle.symmetry.specs.Vectors.{Vector, origin}
use Rattle.symmetry.specs.Sizes.{IsVectorWithin}
use Rattle.motions.specs.declared.miller.TheConstants.{INDEX}
use Rattle.motions.specs.declared.miller.PlaneFault.{PlaneFault}
use Rattle.motions.specs.declared.miller.PlaneFault.TheVariants.{OutOfRange, AllZero, NotCoprime}
use Rattle.motions.specs.Divisors.{IsGreatestDivisor}

-- one passes INDEX in size; all are 0; all are in range, and their greatest common divisor g is above 1
abbrev pub IsPlaneFault : Vector → PlaneFault → Type 0
IsPlaneFault r OutOfRange = ¬ (IsVectorWithin (unsigned_abs INDEX) r)
IsPlaneFault r AllZero = r ≡ origin
IsPlaneFault r (NotCoprime g) = IsVectorWithin (unsigned_abs INDEX) r × IsGreatestDivisor (unsigned_abs g) r × (pos 1 <ℤ g)
