-- What a run of the program does, beyond what any does.
use Rattle.std.specs.Prelude.{◌≡◌, ◌⊎◌, ℕ, ◌+◌, ◌≤◌, List, length, Option, Some, Result, Ok, Err}
use Rattle.symmetry.specs.Vectors.{Vector}
use Rattle.symmetry.specs.Groups.{Listing}
use Rattle.requests.specs.declared.request.Format.{Format}
use Rattle.requests.specs.declared.refusal.Refusal.{Refusal}
use Rattle.requests.specs.declared.outcome.Outcome.{Outcome}
use Rattle.requests.specs.declared.outcome.Outcome.TheVariants.{Refused}
use Rattle.requests.specs.Inputs.{most_bytes}
use Rattle.requests.specs.Questions.{IsWordsRefusal}
use Rattle.requests.specs.Runs.{Succeeds}
use Rattle.frame.specs.Answers.{AnswersInput, RefusesInput, RefusesReduced}

-- this is the row that the words ask for, and the format of the input
abbrev pub AsksRow : Result (Vector × Format) Refusal → Vector → Format → Type 0
AsksRow read row format = read ≡ Ok (row, format)

-- the words ask for a row, and P holds of the line of its frame over the input
pub record OfFrame (read : Result (Vector × Format) Refusal) (left : Option (List ℕ)) (P : List ℕ → Type 0) : Type 0 where
  pub row : Vector
  pub format : Format
  pub asks : AsksRow read row format
  pub holds : (input : List ℕ) → left ≡ Some input → (text : List ℕ) × AnswersInput format row input text × P text

-- why a run refuses: the words, or the input
abbrev pub IsCause : Result (Vector × Format) Refusal → Option (List ℕ) → Refusal → Type 0
IsCause read left refusal =
    IsWordsRefusal read refusal
    ⊎ ((row : Vector) × (format : Format) × AsksRow read row format
    × ((input : List ℕ) → left ≡ Some input → RefusesInput format row input refusal))

-- ---- what it has to do

-- a run over a group gives a frame or refuses a reduced one, unless memory ran out or a device failed, whose count of faults
-- then rose
abbrev pub GivesFrame : Listing → Vector → Outcome → ℕ → ℕ → ℕ → ℕ → Type 0
GivesFrame g row (Refused r) faults faults' put put' = RefusesReduced g row r
GivesFrame g row outcome faults faults' put put' = Succeeds outcome faults faults' put put'

-- the most bytes that are read: one more than an input may have, and none where the words are refused
abbrev pub most_read : Result (Vector × Format) Refusal → ℕ
most_read (Ok (row, format)) = most_bytes format + 1
most_read (Err refusal) = 0

-- the source tells what is left, and each line of a frame over it has at most so many bytes
abbrev pub FitsIn : Result (Vector × Format) Refusal → Option (List ℕ) → ℕ → Type 0
FitsIn read left n = (row : Vector) (format : Format) → AsksRow read row format
    → (input : List ℕ) × (left ≡ Some input) × ((text : List ℕ) → AnswersInput format row input text → length text ≤ n)
