-- `types`: the table of a type, which needs no input.
use Rattle.std.specs.Prelude.{ℕ, List, [], ◌∷◌, if◌then◌else◌, Option, Some, None, Result, Ok, option_and_then, option_map, codes}
use Rattle.std.specs.Str.{bytes_eq}
use Rattle.report.specs.declared.types.Kind.{Kind}
use Rattle.report.specs.declared.types.Kind.TheVariants.{Layer, Rod, Frieze}
use Rattle.report.specs.TypeNumbers.{type_count}
use Rattle.requests.specs.declared.refusal.Refusal.{Refusal}
use Rattle.command.specs.Numbers.{number_word}
use Rattle.requests.specs.Questions.{Asked, of_type, tabulate}

-- the kind of types that a word names
abbrev pub kind_word : List ℕ → Option Kind
kind_word word =
    if bytes_eq word (codes "layer") then Some Layer else
    if bytes_eq word (codes "rod") then Some Rod else
    if bytes_eq word (codes "frieze") then Some Frieze else None

-- a kind, and a number of a type of that kind
abbrev pub types_words : List (List ℕ) → Option (Result Asked Refusal)
types_words (name ∷ number ∷ []) = option_and_then (λ kind. option_map (λ n. Ok (tabulate (of_type kind n))) (number_word (type_count kind) number)) (kind_word name)
types_words _ = None
