-- How a fraction is written.
use Rattle.std.specs.Prelude.{ℕ, ℤ, pos, List, [], ◌∷◌, ◌++◌, int_lt, if◌then◌else◌}
use Rattle.std.specs.Fmt.{signed_decimal}
use Rattle.fractions.specs.Fraction.{Fraction}

-- a slash (47) and the denominator, where that is above 1
abbrev pub denominator_text : ℤ → List ℕ
denominator_text den = if int_lt (pos 1) den then 47 ∷ signed_decimal den else []

-- the numerator in decimal, and behind it that
abbrev pub ratio_text : Fraction → List ℕ
ratio_text q = signed_decimal q.num ++ denominator_text q.den
