-- What the program answers to a request over an input.
use Rattle.std.specs.Prelude.{◌≡◌, ℕ, ◌⊎◌, List, [], Option, Some}
use Rattle.symmetry.specs.Groups.{Listing}
use Rattle.orbits.specs.Orientations.{IsWide}
use Rattle.report.specs.TypeTexts.{IsTypeText}
use Rattle.sample.specs.Counted.{counts_text}
use Rattle.sample.specs.Samples.{IsSample}
use Rattle.sample.specs.declared.counts.Counts.{Counts}
use Rattle.requests.specs.declared.request.Format.{Format}
use Rattle.requests.specs.declared.refusal.Refusal.{Refusal}
use Rattle.requests.specs.declared.refusal.Refusal.TheVariants.{Wide}
use Rattle.requests.specs.Questions.{Asked, Question, Table, about, tabulate, at_height, between_heights, all_heights, image_rows, survey_within, along_line, all_lines, of_type, of_sample}
use Rattle.requests.specs.Obstacles.{IsFairFrame, RefusesFrame}
use Rattle.requests.specs.Inputs.{IsRefusedInput, IsShort, ListsGroup, ListsSome}
use Rattle.requests.specs.At.{IsHeightAnswer}
use Rattle.requests.specs.Slabs.{IsSlabAnswer}
use Rattle.requests.specs.Layers.{IsReportAnswer}
use Rattle.requests.specs.Images.{IsImagesAnswer}
use Rattle.requests.specs.Surveys.{IsSurveyAnswer}
use Rattle.requests.specs.Rods.{IsFairRod, IsRodAnswer, RefusesRod}
use Rattle.requests.specs.PlaneLines.{IsLinesAnswer}

-- ---- of a group

-- the text is what is asked of the group
abbrev pub Answers : Listing → Question → List ℕ → Type 0
Answers g (at_height row basis s) text = IsHeightAnswer g row basis s text
Answers g (between_heights row basis low high) text = IsSlabAnswer g row basis low high text
Answers g (all_heights row basis form) text = IsReportAnswer g row basis form text
Answers g (image_rows row) text = IsImagesAnswer g row text
Answers g (survey_within n) text = IsSurveyAnswer g n text
Answers g (along_line u a b p) text = IsRodAnswer g u a b p text
Answers g (all_lines row) text = IsLinesAnswer g row text

-- the question may be asked of the group: a survey always
abbrev pub IsFair : Listing → Question → Type 0
IsFair g (at_height row basis s) = IsFairFrame g row basis
IsFair g (between_heights row basis low high) = IsFairFrame g row basis
IsFair g (all_heights row basis form) = IsFairFrame g row basis
IsFair g (image_rows row) = ¬ IsWide g row
IsFair g (survey_within n) = Unit {0}
IsFair g (along_line u a b p) = IsFairRod g u a b
IsFair g (all_lines row) = Unit {0}

-- why it may not
abbrev pub RefusesQuestion : Listing → Question → Refusal → Type 0
RefusesQuestion g (at_height row basis s) refusal = RefusesFrame g row basis refusal
RefusesQuestion g (between_heights row basis low high) refusal = RefusesFrame g row basis refusal
RefusesQuestion g (all_heights row basis form) refusal = RefusesFrame g row basis refusal
RefusesQuestion g (image_rows row) refusal = IsWide g row × (refusal ≡ Wide)
RefusesQuestion g (survey_within n) refusal = ⊥
RefusesQuestion g (along_line u a b p) refusal = RefusesRod g u a b refusal
RefusesQuestion g (all_lines row) refusal = ⊥

-- ---- of an input

-- the text is what is asked of the group that the input lists
pub record AnswersInput (format : Format) (question : Question) (input text : List ℕ) : Type 0 where
  pub short : IsShort format input
  pub group : Listing
  pub lists : ListsGroup format input group
  pub answers : Answers group question text

-- the question may be asked of the group that the input lists
pub record IsFairInput (format : Format) (question : Question) (input : List ℕ) : Type 0 where
  pub short : IsShort format input
  pub group : Listing
  pub lists : ListsGroup format input group
  pub fair : IsFair group question

-- why there is no answer over the input: it gives no group, or one that may not be asked
abbrev pub RefusesInput : Format → Question → List ℕ → Refusal → Type 0
RefusesInput format question input refusal =
    IsRefusedInput format input refusal
    ⊎ (IsShort format input × ListsSome format input
    × ((g : Listing) → ListsGroup format input g → RefusesQuestion g question refusal))

-- ---- without an input

-- the text is that of the table
abbrev pub IsTable : Table → List ℕ → Type 0
IsTable (of_type kind n) text = IsTypeText kind n text
IsTable (of_sample n) text = (counts : Counts) × IsSample n counts × (text ≡ counts_text counts)

-- ---- to a request

-- the input over which it is answered: all that the source has left, where it tells that, or nothing
abbrev pub IsInput : Asked → Option (List ℕ) → List ℕ → Type 0
IsInput (about format question) left input = left ≡ Some input
IsInput (tabulate table) left input = input ≡ []

-- the text is the answer over the input
abbrev pub IsOutput : Asked → List ℕ → List ℕ → Type 0
IsOutput (about format question) input text = AnswersInput format question input text
IsOutput (tabulate table) input text = IsTable table text

-- it has to be answered over the input: a table always
abbrev pub HasOutput : Asked → List ℕ → Type 0
HasOutput (about format question) input = IsFairInput format question input
HasOutput (tabulate table) input = Unit {0}

-- why the input is refused: a table never is
abbrev pub IsInputRefusal : Asked → List ℕ → Refusal → Type 0
IsInputRefusal (about format question) input refusal = RefusesInput format question input refusal
IsInputRefusal (tabulate table) input refusal = ⊥
