-- The number that a Ratio is.
use Rattle.fractions.specs.declared.ratio.Ratio.{Ratio}
use Rattle.fractions.specs.Fraction.{Fraction}

-- its numerator and denominator
abbrev pub fraction_of : Ratio → Fraction
fraction_of r = record { num = r.num; den = r.den }
