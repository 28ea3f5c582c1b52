-- A ratio in a text: an optional sign, a run of digits, and, if a slash follows, another run of digits.
use Rattle.std.specs.Prelude.{ℕ, ◌+◌, ℤ, pos, neg_ℤ, Bool, ◌||◌, ◌==◌, nat_lt, if◌then◌else◌, List, length, drop, take_while, slice_index, Option, Some, None, option_and_then}
use Rattle.std.specs.Option.{option_or, option_map_or}
use Rattle.std.specs.List.{list_all}
use Rattle.std.specs.Char.{is_ascii_digit}
use Rattle.std.specs.Str.Parse.{digits_value}
use Rattle.fractions.specs.declared.read.FractionFault.{FractionFault}
use Rattle.fractions.specs.declared.read.FractionFault.TheVariants.{NoDigit, TooLong, ZeroDenominator}

-- ---- runs of digits

-- the longest run of digits that begins at a place
abbrev pub digits_at : List ℕ → ℕ → List ℕ
digits_at bytes place = take_while is_ascii_digit (drop place bytes)

-- the place behind it
abbrev pub behind_digits : List ℕ → ℕ → ℕ
behind_digits bytes place = place + length (digits_at bytes place)

-- the number that it writes
abbrev pub number_at : List ℕ → ℕ → ℕ
number_at bytes place = digits_value 10 (digits_at bytes place)

-- what is wrong with it: it is empty, or has a digit more than the most, which are 18
abbrev pub run_fault : List ℕ → ℕ → Option FractionFault
run_fault bytes place =
    let count = length (digits_at bytes place) in
    if count == 0 then Some (NoDigit place) else if nat_lt 18 count then Some (TooLong (place + 18)) else None

-- ---- the numerator

-- `+` (43) or `-` (45)
abbrev pub is_sign : ℕ → Bool
is_sign byte = byte == 43 || byte == 45

-- where its digits begin: behind a sign, if there is one
abbrev pub numerator_place : List ℕ → ℕ → ℕ
numerator_place bytes at = if is_sign (slice_index bytes at) then at + 1 else at

-- the place behind it
abbrev pub numerator_end : List ℕ → ℕ → ℕ
numerator_end bytes at = behind_digits bytes (numerator_place bytes at)

-- the numerator, with its sign
abbrev pub numerator : List ℕ → ℕ → ℤ
numerator bytes at =
    let size = pos (number_at bytes (numerator_place bytes at)) in
    if slice_index bytes at == 45 then neg_ℤ size else size

-- ---- the denominator, which is there if a slash (47) stands behind the numerator

-- where its digits begin
abbrev pub denominator_place : List ℕ → ℕ → Option ℕ
denominator_place bytes slash = if slice_index bytes slash == 47 then Some (slash + 1) else None

-- the denominator, which is 1 where none is written
abbrev pub denominator_behind : List ℕ → ℕ → ℤ
denominator_behind bytes slash = option_map_or (λ place. pos (number_at bytes place)) (denominator_place bytes slash) (pos 1)

-- the place behind it
abbrev pub end_behind : List ℕ → ℕ → ℕ
end_behind bytes slash = option_map_or (behind_digits bytes) (denominator_place bytes slash) slash

-- its digits are all zeros (48)
abbrev pub zero_fault : List ℕ → ℕ → Option FractionFault
zero_fault bytes place = if list_all (λ digit. digit == 48) (digits_at bytes place) then Some (ZeroDenominator place) else None

-- what is wrong with it
abbrev pub fault_behind : List ℕ → ℕ → Option FractionFault
fault_behind bytes slash = option_and_then (λ place. option_or (run_fault bytes place) (zero_fault bytes place)) (denominator_place bytes slash)

-- ---- the ratio

-- the denominator behind its numerator
abbrev pub denominator : List ℕ → ℕ → ℤ
denominator bytes at = denominator_behind bytes (numerator_end bytes at)

-- the place behind it
abbrev pub ratio_end : List ℕ → ℕ → ℕ
ratio_end bytes at = end_behind bytes (numerator_end bytes at)

-- the first that is wrong with it, from the left
abbrev pub ratio_fault : List ℕ → ℕ → Option FractionFault
ratio_fault bytes at = option_or (run_fault bytes (numerator_place bytes at)) (fault_behind bytes (numerator_end bytes at))
