-- What is asked.
use Rattle.std.specs.Prelude.{◌≡◌, ◌≤◌, ℕ, ℤ, pos, ◌≤ℤ◌, Result, Ok, Err}
use Rattle.fractions.specs.Fraction.{Fraction}
use Rattle.symmetry.specs.Vectors.{Vector}
use Rattle.symmetry.specs.Frames.{Basis}
use Rattle.symmetry.specs.Sizes.{IsVectorWithin}
use Rattle.plane_lattice.specs.Bounds.{largest_entry}
use Rattle.report.specs.declared.types.Kind.{Kind}
use Rattle.report.specs.TypeNumbers.{IsTypeNumber}
use Rattle.requests.specs.declared.request.Form.{Form}
use Rattle.requests.specs.declared.request.Format.{Format}
use Rattle.requests.specs.declared.refusal.Refusal.{Refusal}
use Rattle.requests.specs.Limits.{IsHeightInRange}
use Rattle.requests.specs.SlabLimits.{IsSlabInRange}

-- what is asked of a group: the operations at one height, those of a slab, those at all heights, the images of an orientation, the
-- survey of the orientations with indices at most n in size, the operations along a line through a point, or those of all lines
-- (h k 0) of a plane group
pub data Question : Type 0 where
  at_height : (row : Vector) (basis : Basis) (height : Fraction) → Question
  between_heights : (row : Vector) (basis : Basis) (low high : Fraction) → Question
  all_heights : (row : Vector) (basis : Basis) (form : Form) → Question
  image_rows : (row : Vector) → Question
  survey_within : (n : ℤ) → Question
  along_line : (direction a b point : Vector) → Question
  all_lines : (row : Vector) → Question

-- what is asked without an input: the table of a type, or the counts of a sample
pub data Table : Type 0 where
  of_type : (kind : Kind) (n : ℕ) → Table
  of_sample : (n : ℕ) → Table

-- what is asked: a question about the group of an input of a format, or a table
pub data Asked : Type 0 where
  about : (format : Format) (question : Question) → Asked
  tabulate : (table : Table) → Asked

-- the size of a survey is 1 to 5
abbrev pub IsSurveyInRange : ℤ → Type 0
IsSurveyInRange n = (pos 1 ≤ℤ n) × (n ≤ℤ pos 5)

-- the height is within its limits, or those of the slab, or the size of the survey, or each coordinate of the point; a line of a plane
-- group has two indices
abbrev pub IsQuestionInRange : Question → Type 0
IsQuestionInRange (at_height row basis height) = IsHeightInRange height
IsQuestionInRange (between_heights row basis low high) = IsSlabInRange low high
IsQuestionInRange (survey_within n) = IsSurveyInRange n
IsQuestionInRange (along_line direction a b point) = IsVectorWithin largest_entry point
IsQuestionInRange (all_lines row) = row.z ≡ pos 0
IsQuestionInRange _ = Unit {0}

-- the number is one of the kind, or from 1 to 400
abbrev pub IsTableInRange : Table → Type 0
IsTableInRange (of_type kind n) = IsTypeNumber kind n
IsTableInRange (of_sample n) = (1 ≤ n) × (n ≤ 400)

-- what is asked is within its limits
abbrev pub IsAskedInRange : Asked → Type 0
IsAskedInRange (about format question) = IsQuestionInRange question
IsAskedInRange (tabulate table) = IsTableInRange table

-- what was read, as what it is of, or the refusal
abbrev pub result_map : {A B E : Type 0} → (A → B) → Result A E → Result B E
result_map f (Ok a) = Ok (f a)
result_map f (Err e) = Err e

-- this is what the words ask for
abbrev pub IsRequest : Result Asked Refusal → Asked → Type 0
IsRequest read asked = read ≡ Ok asked

-- this is why the words are refused
abbrev pub IsWordsRefusal : {A : Type 0} → Result A Refusal → Refusal → Type 0
IsWordsRefusal read refusal = read ≡ Err refusal

-- the words ask about the group of an input
abbrev pub AsksInput : Result Asked Refusal → Type 0
AsksInput read = (format : Format) × (question : Question) × IsRequest read (about format question)
