-- What is kept of a text that may go on.
use Rattle.std.specs.Prelude.{◌≡◌, ℕ, ◌+◌, Bool, List, [], ◌∷◌, ◌++◌, length}
use Rattle.symmetry.specs.Vectors.{Vector}
use Rattle.symmetry.specs.Groups.{Listing}
use Rattle.motions.specs.Views.{listing_of}
use Rattle.triplets.specs.declared.notation.Notation.{Notation}
use Rattle.triplets.specs.declared.text.LineReader.{LineReader}
use Rattle.triplets.specs.BegunLines.{AreBegunVectors}
use Rattle.triplets.specs.Texts.{lines_of, AreTextLines}

-- what the lines that have ended say, then the vectors of the line begun
abbrev pub with_begun : Listing → List Vector → Listing
with_begun said vectors = record said { centrings = said.centrings ++ vectors }

-- These lines list this so far, of generators where the heading has ended, and the next byte stands at this place, counted from 1.
pub record AreKept (notation : Notation) (lines : List (List ℕ)) (generated : Bool) (listing : Listing) (line column : ℕ) : Type 0 where
  pub ended : List (List ℕ)
  pub begun : List ℕ
  pub lines_are : lines ≡ ended ++ begun ∷ []
  pub said : Listing
  pub vectors : List Vector
  pub ended_say : AreTextLines notation generated ended said
  pub begun_says : AreBegunVectors notation begun vectors
  pub listing_is : listing ≡ with_begun said vectors
  pub line_is : line ≡ length ended + 1
  pub column_is : column ≡ length begun + 1

-- the lines of the text do
abbrev pub IsKept : Notation → List ℕ → Bool → Listing → ℕ → ℕ → Type 0
IsKept notation text = AreKept notation (lines_of text)

-- the reader keeps what this text lists so far, and where it stands
abbrev pub Keeps : Notation → LineReader → List ℕ → Type 0
Keeps notation r text = IsKept notation text r.listed.generated (listing_of r.listed) r.line r.column
