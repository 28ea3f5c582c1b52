-- What the calls answer, as the grammar of a group text says it.
use Rattle.std.specs.Prelude.{◌≡◌, ℕ, Bool, List, Result, Ok, Err, IfOk, IfErr}
use Rattle.motions.specs.declared.listed.Listed.{Listed}
use Rattle.motions.specs.Views.{listing_of}
use Rattle.symmetry.specs.Groups.{Listing}
use Rattle.triplets.specs.declared.notation.Notation.{Notation}
use Rattle.triplets.specs.declared.fault.TextFault.{TextFault}
use Rattle.triplets.specs.declared.fault.TextFault.TheVariants as faults
use Rattle.triplets.specs.Texts.{IsGroupText, Fault, IsTextFault, IsShownFault}

-- it is no fault, or memory ran out
abbrev pub IsMemory : TextFault → Type 0
IsMemory faults.NoMemory = Unit {0}
IsMemory (faults.At line column kind) = ⊥

-- what is answered lists this, generators or not, or memory ran out
abbrev pub Lists : Result Listed TextFault → Bool → Listing → Type 0
Lists (Ok listed) generated g = (listed.generated ≡ generated) × (listing_of listed ≡ g)
Lists (Err fault) generated g = IsMemory fault

-- the first fault of the text, or memory ran out
abbrev pub IsFaultOf : Notation → List ℕ → TextFault → Type 0
IsFaultOf notation text faults.NoMemory = Unit {0}
IsFaultOf notation text (faults.At line column kind) = IsTextFault notation text (record { line = line; column = column; kind = kind })

-- what a reader answers to a whole text
pub record IsAnswer (notation : Notation) (text : List ℕ) (answer : Result Listed TextFault) : Type 0 where
  pub found : IfOk answer (λ listed. IsGroupText notation text listed.generated (listing_of listed))
  pub only : (generated : Bool) (g : Listing) → IsGroupText notation text generated g → Lists answer generated g
  pub fault : IfErr answer (IsFaultOf notation text)

-- the first fault that a text shows, or memory ran out
abbrev pub IsShownBy : Notation → List ℕ → TextFault → Type 0
IsShownBy notation text faults.NoMemory = Unit {0}
IsShownBy notation text (faults.At line column kind) = IsShownFault notation text (record { line = line; column = column; kind = kind })

-- what a reader answers to a text that may go on
pub record IsAnswerSoFar (notation : Notation) (text : List ℕ) (answer : Result (Unit {0}) TextFault) : Type 0 where
  pub none : IfOk answer (λ _. (f : Fault) → ¬ IsShownFault notation text f)
  pub fault : IfErr answer (IsShownBy notation text)
