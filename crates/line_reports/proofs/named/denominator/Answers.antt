use Rattle.std.proofs.Common.{[], ◌∷◌, pos, ◌≤ℤ◌, sym, subst, arith, ◌*ℤ◌}
use Rattle.std.specs.Prelude.{ℤ}
use Rattle.std.proofs.lemmas.Int.{ints}
use Rattle.integers.proofs.Coded.{code_is}
use Rattle.integers.proofs.Order.{one-le-mul_three}
use Rattle.fractions.specs.declared.part.TheConstants.{UNIT}
use Rattle.friezes.specs.declared.found_frieze.TheConstants.{GRID}
use Rattle.plane_lattice.proofs.OriginSizes.{denominator, over_bounds}
use Rattle.line_reports.proofs.named.denominator.Goals as goal

pub returns-clause-is : goal.returns-clause-is
returns-clause-is c = code_is over_bounds (c.args.den ∷ c.args.period.0 ∷ []) (denominator (pos GRID *ℤ UNIT)) tt (c.requires.den, (c.requires.period, tt))

pub returns-clause-above : goal.returns-clause-above
returns-clause-above c =
    subst (λ (z : ℤ). pos 1 ≤ℤ z) (sym (code_is over_bounds (c.args.den ∷ c.args.period.0 ∷ []) (denominator (pos GRID *ℤ UNIT)) tt (c.requires.den, (c.requires.period, tt))))
    (one-le-mul_three c.args.den c.args.period.0 (pos GRID *ℤ UNIT) c.requires.above c.requires.period_above (omega (arith, ints)))
