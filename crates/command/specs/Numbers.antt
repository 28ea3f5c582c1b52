-- Numbers that words name.
use Rattle.std.specs.Prelude.{ℕ, List, length, ◌&&◌, nat_le, if◌then◌else◌, Option, Some, None}
use Rattle.std.specs.Str.Parse.{digits_value}
use Rattle.requests.specs.Words.{is_numeral}

-- the number from 1 to the most that a word is: one to three digits
unfoldable pub number_word : ℕ → List ℕ → Option ℕ
number_word most word =
    let n = digits_value 10 word in
    if is_numeral word && nat_le (length word) 3 && nat_le 1 n && nat_le n most then Some n else None
