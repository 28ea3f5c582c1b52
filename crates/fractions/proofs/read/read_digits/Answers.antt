use Rattle.fractions.proofs.Digits.{AllDigits-take}
use Rattle.fractions.proofs.read.read_digits.Goals as goal

pub number-requires-clause-digits : goal.number-requires-clause-digits
number-requires-clause-digits c = AllDigits-take c.args.bytes.now c.args.place c.digit_count-count.result c.digit_count-count.ensures.value
