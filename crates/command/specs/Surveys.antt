-- `survey`: one orientation of each class of equivalent ones.
use Rattle.std.specs.Prelude.{ℕ, ℤ, pos, List, if◌then◌else◌, Option, Some, None, Result, Ok, option_and_then, option_map, codes}
use Rattle.std.specs.Str.{bytes_eq}
use Rattle.requests.specs.declared.request.Format.{Format}
use Rattle.requests.specs.declared.refusal.Refusal.{Refusal}
use Rattle.requests.specs.Words.{at_end, first_word, format_first}
use Rattle.requests.specs.Questions.{Asked, about, survey_within}

-- the most that an index may be, as a digit from 1 to 5
abbrev pub size_word : List ℕ → Option ℤ
size_word word =
    if bytes_eq word (codes "1") then Some (pos 1) else
    if bytes_eq word (codes "2") then Some (pos 2) else
    if bytes_eq word (codes "3") then Some (pos 3) else
    if bytes_eq word (codes "4") then Some (pos 4) else
    if bytes_eq word (codes "5") then Some (pos 5) else None

-- the survey within these indices is asked for
abbrev pub survey_asked : ℤ → Format → Result Asked Refusal
survey_asked n format = Ok (about format (survey_within n))

-- a digit, and last `--cif`
abbrev pub survey_words : List (List ℕ) → Option (Result Asked Refusal)
survey_words words = option_and_then (λ n. option_map (survey_asked n.0) (at_end (format_first n.1))) (first_word size_word words)
