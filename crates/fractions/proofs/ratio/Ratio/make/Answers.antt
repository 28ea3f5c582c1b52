use Rattle.std.proofs.Common.{rules, ◌≡◌, pos}
use Rattle.fractions.proofs.Divisor.{can_divide_num, can_divide_den, coded_fraction_is, IsLowestForm-coded, IsNoLarger-coded}
use Rattle.fractions.proofs.ratio.Ratio.make.Goals as goal

pub nonzero_div-result : goal.nonzero_div-result
nonzero_div-result c =
    let nonzero : ¬ (c.args.den ≡ pos 0) = search rules in
    can_divide_num c.args.num c.args.den c.signed_divisor-divisor.result (assumption c)

pub nonzero_div-result-2 : goal.nonzero_div-result-2
nonzero_div-result-2 c =
    let nonzero : ¬ (c.args.den ≡ pos 0) = search rules in
    can_divide_den c.args.num c.args.den c.signed_divisor-divisor.result (assumption c)

pub invariant_of-result : goal.invariant_of-result
invariant_of-result c =
    let nonzero : ¬ (c.args.den ≡ pos 0) = search rules in
    let h = IsLowestForm-coded c.args.num c.args.den c.signed_divisor-divisor.result (assumption c) in
    record { positive = h.positive; lowest = h.lowest }

pub returns-clause-some : goal.returns-clause-some
returns-clause-some c =
    let nonzero : ¬ (c.args.den ≡ pos 0) = search rules in
    IsLowestForm-coded c.args.num c.args.den c.signed_divisor-divisor.result (assumption c)

pub returns-clause-exact : goal.returns-clause-exact
returns-clause-exact c =
    let nonzero : ¬ (c.args.den ≡ pos 0) = search rules in
    coded_fraction_is c.args.num c.args.den c.signed_divisor-divisor.result (assumption c)

pub returns-clause-no_larger : goal.returns-clause-no_larger
returns-clause-no_larger c =
    let nonzero : ¬ (c.args.den ≡ pos 0) = search rules in
    IsNoLarger-coded c.args.num c.args.den c.signed_divisor-divisor.result (assumption c)
