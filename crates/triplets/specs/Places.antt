-- The place and the kind of a fault, where it is known which texts are good and a table names the kinds.
use Rattle.std.specs.Prelude.{◌≡◌, ℕ, ◌+◌, ◌<◌, ◌≤◌, List, ◌++◌, length, take, slice_get, Option, Some, None}
use Rattle.triplets.specs.declared.fault.TextKind.{TextKind}
use Rattle.triplets.specs.declared.fault.TextKind.TheVariants.{MissingPart}

-- the bytes are the beginning of a good text
abbrev pub IsPrefixIn : (List ℕ → Type 0) → List ℕ → Type 0
IsPrefixIn Good bytes = (rest : List ℕ) × Good (bytes ++ rest)

-- what stands before is the beginning of a good text, and with the byte at the place, if there is one, it is not
pub record IsPlaceIn (Good : List ℕ → Type 0) (bytes : List ℕ) (before : ℕ) : Type 0 where
  pub within : before ≤ length bytes
  pub good : ¬ Good bytes
  pub prefix : IsPrefixIn Good (take before bytes)
  pub here : before < length bytes → ¬ IsPrefixIn Good (take (before + 1) bytes)

-- the kind at a byte by the table; where no byte stands at the place, the text ends too early
abbrev pub HasKindBy : (List ℕ → ℕ → TextKind → Type 0) → List ℕ → Option ℕ → TextKind → Type 0
HasKindBy Table before None kind = kind ≡ MissingPart
HasKindBy Table before (Some b) kind = Table before b kind

-- the place of the fault, counted from 0, and its kind
pub record IsFaultBy (Table : List ℕ → ℕ → TextKind → Type 0) (Good : List ℕ → Type 0) (bytes : List ℕ) (before : ℕ) (kind : TextKind) : Type 0 where
  pub place : IsPlaceIn Good bytes before
  pub kind_is : HasKindBy Table (take before bytes) (slice_get bytes before) kind
