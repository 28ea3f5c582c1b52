-- The sum and the denominator are within 10 ^ 19.
use Rattle.fractions.specs.FractionOf.{fraction_of}
use Rattle.slabs.proofs.HeightNumbers.{made_ratio, some_ratio, sum_fits, sum_small, wide_double, wide_sum}
use Rattle.slabs.proofs.SlabImages.{twice_positive}
use Rattle.slabs.proofs.heights.middle.Goals as goal

pub overflow_add-sum : goal.overflow_add-sum
overflow_add-sum c =
    let low = c.args.low in
    let high = c.args.high in
    sum_fits low.num low.den high.num high.den c.requires.low.num c.requires.low.den c.requires.high.num c.requires.high.den
    _ _ _ _ c.num.ensures c.den.ensures c.num-2.ensures c.den-2.ensures

pub make-requires-clause-num_small : goal.make-requires-clause-num_small
make-requires-clause-num_small c =
    let low = c.args.low in
    let high = c.args.high in
    sum_small low.num low.den high.num high.den c.requires.low.num c.requires.low.den c.requires.high.num c.requires.high.den
    _ _ _ _ c.num.ensures c.den.ensures c.num-2.ensures c.den-2.ensures

pub unwrap-requires : goal.unwrap-requires
unwrap-requires c =
    let low = c.args.low in
    let high = c.args.high in
    some_ratio c.make.result _ _ c.make.ensures.none
    (wide_double low.num low.den high.num high.den c.requires.low.num c.requires.low.den c.requires.high.num c.requires.high.den _ _ c.den-3.ensures c.den-4.ensures)
    (twice_positive (fraction_of low) (fraction_of high) low.positive high.positive)

pub returns : goal.returns
returns c =
    let low = c.args.low in
    let high = c.args.high in
    made_ratio c.make.result c.unwrap.result _ _ _ _ c.unwrap.ensures c.make.ensures.exact
    (wide_sum low.num low.den high.num high.den c.requires.low.num c.requires.low.den c.requires.high.num c.requires.high.den
    _ _ _ _ c.num.ensures c.den.ensures c.num-2.ensures c.den-2.ensures)
    (wide_double low.num low.den high.num high.den c.requires.low.num c.requires.low.den c.requires.high.num c.requires.high.den _ _ c.den-3.ensures c.den-4.ensures)
