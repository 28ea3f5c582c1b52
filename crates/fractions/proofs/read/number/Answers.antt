use Rattle.std.proofs.Common.{arith}
use Rattle.std.proofs.lemmas.Str.Parse.{digits_value-take-le}
use Rattle.fractions.proofs.Digits.{next_digit, digits_value-short}
use Rattle.fractions.proofs.read.number.Goals as goal

pub overflow_mul-number : goal.overflow_mul-number
overflow_mul-number c =
    let next = next_digit c.args.digits.now _ _ c.requires.digits c.requires.short c.loop-digit-test.true c.loop-digit.invariant in
    omega arith

pub overflow_sub-digit : goal.overflow_sub-digit
overflow_sub-digit c =
    (next_digit c.args.digits.now _ _ c.requires.digits c.requires.short c.loop-digit-test.true c.loop-digit.invariant).is_digit

pub overflow_add-number : goal.overflow_add-number
overflow_add-number c =
    let next = next_digit c.args.digits.now _ _ c.requires.digits c.requires.short c.loop-digit-test.true c.loop-digit.invariant in
    omega arith

pub loop-digit-preserved : goal.loop-digit-preserved
loop-digit-preserved c =
    let next = next_digit c.args.digits.now _ _ c.requires.digits c.requires.short c.loop-digit-test.true c.loop-digit.invariant in
    omega arith

pub returns-clause-small : goal.returns-clause-small
returns-clause-small c =
    let short = digits_value-short c.args.digits.now c.requires.digits c.requires.short in
    let le = digits_value-take-le 10 c.args.digits.now c.loop-digit.digit-index (omega arith) in
    omega arith
