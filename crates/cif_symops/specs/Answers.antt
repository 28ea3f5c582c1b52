-- What the call answers.
use Rattle.std.specs.Prelude.{◌≡◌, ◌⊎◌, ℕ, true, false, List, [], Result, Ok, Err, IfOk}
use Rattle.symmetry.specs.Groups.{Listing}
use Rattle.motions.specs.declared.listed.Listed.{Listed}
use Rattle.motions.specs.Views.{listing_of}
use Rattle.motions.specs.ListedSizes.{IsListedSmall}
use Rattle.triplets.specs.declared.fault.TextKind.{TextKind}
use Rattle.cif_symops.specs.declared.fault.CifFault.{CifFault}
use Rattle.cif_symops.specs.declared.fault.CifFault.TheVariants as faults
use Rattle.cif_symops.specs.declared.word.Form.{Form}
use Rattle.cif_symops.specs.declared.word.Form.TheVariants.{TextField}
use Rattle.cif_symops.specs.Words.{Word, AreWords}
use Rattle.cif_symops.specs.Layout.{Outcome, without_end, no_symops, ragged, operations, IsOutcome}
use Rattle.cif_symops.specs.Positions.{position}
use Rattle.cif_symops.specs.Operations.{AreOperations, IsFirstMisread}

-- the fault of a word without its end
abbrev pub without_end_fault : List ℕ → Form → ℕ → CifFault
without_end_fault bytes TextField start =
    faults.TextField (position bytes start).line (position bytes start).column
without_end_fault bytes _ start =
    faults.Quote (position bytes start).line (position bytes start).column

abbrev pub ragged_fault : List ℕ → ℕ → CifFault
ragged_fault bytes start = faults.Ragged (position bytes start).line (position bytes start).column

abbrev pub symop_fault : List ℕ → ℕ → TextKind → CifFault
symop_fault bytes offset kind =
    faults.Symop (position bytes offset).line (position bytes offset).column kind

-- what words of operations say: these operations, or the fault of the first that is none
abbrev pub Say : List ℕ → List Word → Result Listing CifFault → Type 0
Say bytes ws (Ok listing) = AreOperations ws listing.ops × (listing.centrings ≡ [])
Say bytes ws (Err fault) =
    (offset : ℕ) × (kind : TextKind) × IsFirstMisread ws offset kind × (fault ≡ symop_fault bytes offset kind)

-- what an outcome says
abbrev pub Says : List ℕ → Outcome → Result Listing CifFault → Type 0
Says bytes (without_end w) said = said ≡ Err (without_end_fault bytes w.form w.start)
Says bytes no_symops said = said ≡ Err faults.NoSymops
Says bytes (ragged start) said = said ≡ Err (ragged_fault bytes start)
Says bytes (operations ws) said = Say bytes ws said

-- what a file says: its operations, or its first fault
abbrev pub FileSays : List ℕ → Result Listing CifFault → Type 0
FileSays bytes said =
    (ws : List Word) × (outcome : Outcome) × AreWords 0 true bytes ws × IsOutcome ws outcome × Says bytes outcome said

-- what was answered
abbrev pub answer_of : Result Listed CifFault → Result Listing CifFault
answer_of (Ok listed) = Ok (listing_of listed)
answer_of (Err fault) = Err fault

-- the operations that were answered are all operations of the group, and not its generators
abbrev pub AreNoGenerators : Result Listed CifFault → Type 0
AreNoGenerators answer = IfOk answer (λ listed. listed.generated ≡ false)

-- an outcome says what was answered
pub record IsGiven (bytes : List ℕ) (outcome : Outcome) (answer : Result Listed CifFault) : Type 0 where
  pub says : Says bytes outcome (answer_of answer)
  pub no_generators : AreNoGenerators answer
  pub small : IfOk answer (IsListedSmall 9)

-- this was answered, or memory ran out
abbrev pub Gives : List ℕ → Outcome → Result Listed CifFault → Type 0
Gives bytes outcome answer = (answer ≡ Err faults.NoMemory) ⊎ IsGiven bytes outcome answer

-- What a call answers to a file: memory ran out, or what the file says, which is one thing.
pub record IsAnswer (bytes : List ℕ) (answer : Result Listed CifFault) : Type 0 where
  pub is : (answer ≡ Err faults.NoMemory) ⊎ FileSays bytes (answer_of answer)
  pub only : (said : Result Listing CifFault) → FileSays bytes said →
      (answer ≡ Err faults.NoMemory) ⊎ (said ≡ answer_of answer)
  pub no_generators : AreNoGenerators answer
