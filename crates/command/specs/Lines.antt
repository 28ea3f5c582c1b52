-- `lines`: the frieze groups of all lines of a plane group.
use Rattle.std.specs.Prelude.{ℕ, List, Option, None, Result, option_and_then, option_map}
use Rattle.triplets.specs.declared.notation.Notation.TheVariants.{Pairs}
use Rattle.requests.specs.declared.request.Format.TheVariants.{GroupText}
use Rattle.requests.specs.declared.refusal.Refusal.{Refusal}
use Rattle.requests.specs.Words.{at_end, Indices, two_indices}
use Rattle.requests.specs.Limits.{within_limits}
use Rattle.requests.specs.Questions.{Asked, about, all_lines, result_map}

-- the lines (h k) of the plane group of a text of pairs are asked for, or the first limit is passed
abbrev pub lines_asked : Indices → Result Asked Refusal
lines_asked indices =
    result_map (λ p. about (GroupText Pairs) (all_lines p.row)) (within_limits (record { indices = indices; frame = None; height = None }))

-- `h k`
abbrev pub lines_words : List (List ℕ) → Option (Result Asked Refusal)
lines_words words = option_and_then (λ indices. option_map lines_asked (at_end indices)) (two_indices words)
