-- The denominators that may be written: the numbers that divide the parts of a cell edge.
use Rattle.std.specs.Prelude.{ℕ, ◌+◌, ◌*◌, ◌/◌, ◌%◌, ◌==◌, ◌&&◌, nat_lt, Bool, List, if◌then◌else◌, Option, Some, None, unsigned_abs}
use Rattle.std.specs.Int.{◌∣◌}
use Rattle.std.specs.Fmt.{decimal}
use Rattle.fractions.specs.declared.part.TheConstants.{UNIT}

-- how many parts a cell edge has
abbrev pub unit : ℕ
unit = unsigned_abs UNIT

-- a denominator: one over it is a whole number of parts
pub record Denominator : Type 0 where
  pub number : ℕ
  pub divides : number ∣ unit

-- as it is written, without leading zeros
abbrev pub denominator_text : Denominator → List ℕ
denominator_text d = decimal d.number

-- how many parts one over a number is
abbrev pub parts : ℕ → ℕ
parts n = unit / n

-- whether a number is a denominator
abbrev pub is_denominator : ℕ → Bool
is_denominator n = nat_lt 0 n && unit % n == 0

-- the denominator with one digit more than the number, which is 0 before the first digit
abbrev pub further_digit : ℕ → ℕ → Option ℕ
further_digit n d = if is_denominator (10 * n + d) then Some (10 * n + d) else None
