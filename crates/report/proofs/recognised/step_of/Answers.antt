use Rattle.std.proofs.Common.{◌∙◌}
use Rattle.fractions.specs.FractionOf.{fraction_of}
use Rattle.report.proofs.StepNumbers.{over_above, over_is, parts_are, quotient_at, quotient_fits, some_quotient}
use Rattle.report.proofs.recognised.step_of.Goals as goal

pub whole_quotient-requires : goal.whole_quotient-requires
whole_quotient-requires c =
    let s = fraction_of c.args.s in
    over_above s c.args.period.0 c.requires.small c.requires.period c.requires.above c.from.result c.from-2.result
    (c.from.ensures ∙ parts_are s c.num.result c.requires.small c.num.ensures)
    (c.from-2.ensures ∙ over_is s c.args.period.0 c.den.result c.requires.small c.requires.period c.den.ensures)

pub unreachable-requires : goal.unreachable-requires
unreachable-requires c =
    let s = fraction_of c.args.s in
    some_quotient s c.args.period.0 c.requires.small c.requires.period c.requires.above c.from.result c.from-2.result
    (c.from.ensures ∙ parts_are s c.num.result c.requires.small c.num.ensures)
    (c.from-2.ensures ∙ over_is s c.args.period.0 c.den.result c.requires.small c.requires.period c.den.ensures)
    c.requires.stands.0 c.requires.stands.1 c.in_default.ensures.is

pub overflow_cast-result : goal.overflow_cast-result
overflow_cast-result c =
    let s = fraction_of c.args.s in
    quotient_fits s c.args.period.0 c.requires.small c.requires.period c.requires.above c.from.result c.from-2.result
    (c.from.ensures ∙ parts_are s c.num.result c.requires.small c.num.ensures)
    (c.from-2.ensures ∙ over_is s c.args.period.0 c.den.result c.requires.small c.requires.period c.den.ensures)
    c.requires.stands.0 c.requires.stands.1 c.in-Some.step c.in-Some.ensures.is

pub returns : goal.returns
returns c =
    let s = fraction_of c.args.s in
    quotient_at s c.args.period.0 c.requires.small c.requires.period c.requires.above c.from.result c.from-2.result
    (c.from.ensures ∙ parts_are s c.num.result c.requires.small c.num.ensures)
    (c.from-2.ensures ∙ over_is s c.args.period.0 c.den.result c.requires.small c.requires.period c.den.ensures)
    c.requires.stands.0 c.requires.stands.1 c.in-Some.step c.in-Some.ensures.is
