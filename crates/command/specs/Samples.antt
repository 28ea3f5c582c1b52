-- `sample`: the counts over the reports of groups made from the layer types.
use Rattle.std.specs.Prelude.{ℕ, List, [], ◌∷◌, Option, None, Result, Ok, option_map}
use Rattle.requests.specs.declared.refusal.Refusal.{Refusal}
use Rattle.requests.specs.Questions.{Asked, of_sample, tabulate}
use Rattle.command.specs.Numbers.{number_word}

-- a number of groups, from 1 to 400
abbrev pub sample_words : List (List ℕ) → Option (Result Asked Refusal)
sample_words (number ∷ []) = option_map (λ n. Ok (tabulate (of_sample n))) (number_word 400 number)
sample_words _ = None
