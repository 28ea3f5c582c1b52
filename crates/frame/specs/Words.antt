-- The words of an orientation.
use Rattle.std.specs.Prelude.{ℕ, List, Option, None, Result, Err, option_and_then, option_map, unwrap_or}
use Rattle.symmetry.specs.Vectors.{Vector}
use Rattle.motions.specs.Views.{row_of}
use Rattle.motions.specs.declared.miller.Miller.{Miller}
use Rattle.requests.specs.declared.request.Format.{Format}
use Rattle.requests.specs.declared.refusal.Refusal.{Refusal}
use Rattle.requests.specs.declared.refusal.Refusal.TheVariants.{Usage}
use Rattle.requests.specs.Words.{at_end, format_first, Indices, indices_first}
use Rattle.requests.specs.Limits.{within_limits}
use Rattle.requests.specs.Questions.{result_map}

-- what the words ask for: a row, and the format of the input
abbrev pub said_of : Miller × Format → Vector × Format
said_of read = (row_of read.0, read.1)

-- the row of the indices with the format, or the first limit that they pass
abbrev pub row_asked : Indices → Format → Result (Vector × Format) Refusal
row_asked indices format = result_map (λ p. (p.row, format)) (within_limits (record { indices = indices; frame = None; height = None }))

-- `h k l` or `h k i l`, and last `--cif`
abbrev pub row_words : List (List ℕ) → Option (Result (Vector × Format) Refusal)
row_words words =
    option_and_then (λ indices. option_map (row_asked indices.0) (at_end (format_first indices.1))) (indices_first words)

-- the row that the words ask for and the format, or why they are refused
unfoldable pub asked_by : List (List ℕ) → Result (Vector × Format) Refusal
asked_by words = unwrap_or (row_words words) (Err Usage)
