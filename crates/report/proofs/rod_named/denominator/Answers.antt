use Rattle.std.proofs.Common.{◌≡◌, ◌^◌, ◌*ℤ◌, ◌≤ℤ◌, ℤ, pos, [], ◌∷◌, lit<, sym, subst, ◌∙◌}
use Rattle.integers.proofs.Coded.{again, code_is}
use Rattle.integers.proofs.Order.{one-le-mul}
use Rattle.integers.proofs.Wide.{wide, cast_is}
use Rattle.report.proofs.RodNamedSizes.{below, below_bounds}
use Rattle.report.proofs.rod_named.denominator.Goals as goal

pub returns-clause-above : goal.returns-clause-above
returns-clause-above c =
    let n : wide c.den.result ≡ c.args.v.den = cast_is (2 ^ 20) c.den.result c.args.v.den (lit< tt) c.requires.v.den c.den.ensures in
    let d : wide c.den-2.result ≡ c.args.w.den = cast_is (2 ^ 20) c.den-2.result c.args.w.den (lit< tt) c.requires.w.den c.den-2.ensures in
    subst (λ (z : ℤ). pos 1 ≤ℤ z)
    (sym ((λ i. again (again (n i) *ℤ again (d i)))
    ∙ code_is below_bounds (c.args.v.den ∷ c.args.w.den ∷ []) below tt (c.requires.v.den, (c.requires.w.den, tt))))
    (one-le-mul c.args.v.den c.args.w.den c.args.v.positive c.args.w.positive)
