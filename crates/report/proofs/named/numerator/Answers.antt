use Rattle.std.proofs.Common.{[], ◌∷◌, pos, ◌*ℤ◌}
use Rattle.integers.proofs.Coded.{code_fits, code_is}
use Rattle.fractions.specs.declared.part.TheConstants.{UNIT}
use Rattle.recognition.specs.Grid.{grid}
use Rattle.plane_lattice.proofs.OriginSizes.{numerator, part_over}
use Rattle.report.proofs.NamedSizes.{counted_bounds}
use Rattle.report.proofs.named.numerator.Goals as goal

pub overflow_mul-result-4 : goal.overflow_mul-result-4
overflow_mul-result-4 c =
    code_fits counted_bounds (c.args.num ∷ c.args.den ∷ c.args.period.0 ∷ c.args.tau.0 ∷ c.args.v.0 ∷ []) part_over tt
    (c.requires.num, (c.requires.den, (c.requires.period, (c.requires.tau, (c.requires.v, tt)))))

pub overflow_add-result : goal.overflow_add-result
overflow_add-result c =
    code_fits counted_bounds (c.args.num ∷ c.args.den ∷ c.args.period.0 ∷ c.args.tau.0 ∷ c.args.v.0 ∷ []) (numerator (pos grid *ℤ UNIT)) tt
    (c.requires.num, (c.requires.den, (c.requires.period, (c.requires.tau, (c.requires.v, tt)))))

pub returns : goal.returns
returns c =
    code_is counted_bounds (c.args.num ∷ c.args.den ∷ c.args.period.0 ∷ c.args.tau.0 ∷ c.args.v.0 ∷ []) (numerator (pos grid *ℤ UNIT)) tt
    (c.requires.num, (c.requires.den, (c.requires.period, (c.requires.tau, (c.requires.v, tt)))))
