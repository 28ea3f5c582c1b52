-- The group that an input lists, or why there is none.
use Rattle.std.specs.Prelude.{◌≡◌, ℕ, ◌<◌, ◌≤◌, ◌⊎◌, true, false, List, length, Ok, Err}
use Rattle.symmetry.specs.Groups.{Listing, IsGroup}
use Rattle.triplets.specs.declared.notation.Notation.{Notation}
use Rattle.triplets.specs.declared.notation.Notation.TheVariants.{Triplets, Pairs}
use Rattle.triplets.specs.Texts.{Fault, IsGroupText, IsTextFault}
use Rattle.cif_symops.specs.Answers.{FileSays}
use Rattle.cif_symops.specs.declared.fault.CifFault.{CifFault}
use Rattle.closure.specs.Derived.{GeneratesWithinLimits, IsGeneratedError}
use Rattle.closure.specs.Generated.{IsDerivedListing}
use Rattle.closure.specs.declared.group.Group.{Group}
use Rattle.closure.specs.Groups.{group_listing, IsGroupOf}
use Rattle.plane_groups.specs.PlaneGroups.{IsFlatGroup}
use Rattle.closure.specs.declared.group_error.GroupError.{GroupError}
use Rattle.closure.specs.declared.generated_error.GeneratedError.{GeneratedError}
use Rattle.closure.specs.GroupErrors.{IsGroupError, IsWithinLimits}
use Rattle.requests.specs.declared.request.Format.{Format}
use Rattle.requests.specs.declared.request.Format.TheVariants.{GroupText, Cif}
use Rattle.requests.specs.declared.refusal.Refusal.{Refusal}
use Rattle.requests.specs.declared.refusal.Refusal.TheVariants.{TooLong, Text}
use Rattle.requests.specs.declared.obstacle.Obstacle.{Obstacle}
use Rattle.requests.specs.declared.obstacle.Obstacle.TheVariants as obstacles
use Rattle.requests.specs.Obstacles.{obstacle_of_cif, obstacle_of_generators, obstacle_of_group}

-- the most bytes that an input may have
abbrev pub most_bytes : Format → ℕ
most_bytes (GroupText notation) = 65536
most_bytes Cif = 16777216

-- the input is no longer than it may be
abbrev pub IsShort : Format → List ℕ → Type 0
IsShort format input = length input ≤ most_bytes format

-- ---- what an input lists

-- the text lists generators within the limits, and this is the listing of what they generate
pub record IsGeneratedBy (notation : Notation) (input : List ℕ) (g : Listing) : Type 0 where
  pub generators : Listing
  pub is_text : IsGroupText notation input true generators
  pub limits : GeneratesWithinLimits generators
  pub derived : IsDerivedListing generators g

-- the input lists all of these operations, as a CIF file does
abbrev pub ListsAll : Format → List ℕ → Listing → Type 0
ListsAll (GroupText notation) input g = IsGroupText notation input false g
ListsAll Cif input g = FileSays input (Ok g)

-- the input lists this by all its operations or, if it is a group text, by generators
abbrev pub IsListed : Format → List ℕ → Listing → Type 0
IsListed (GroupText notation) input g = ListsAll (GroupText notation) input g ⊎ IsGeneratedBy notation input g
IsListed Cif input g = ListsAll Cif input g

-- the input lists a group within the limits
pub record ListsGroup (format : Format) (input : List ℕ) (g : Listing) : Type 0 where
  pub is_listed : IsListed format input g
  pub within : IsWithinLimits g
  pub is_group : IsGroup g

-- it lists some group within the limits
abbrev pub ListsSome : Format → List ℕ → Type 0
ListsSome format input = (g : Listing) × ListsGroup format input g

-- the Group of what the input lists
pub record IsGroupOfInput (format : Format) (input : List ℕ) (group : Group) : Type 0 where
  pub short : IsShort format input
  pub some : ListsSome format input
  pub is_of : (g : Listing) → ListsGroup format input g → IsGroupOf g group

-- the Group of a text of pairs is a plane group
abbrev pub IsGroupIn : Format → Group → Type 0
IsGroupIn (GroupText Triplets) group = Unit {0}
IsGroupIn (GroupText Pairs) group = IsFlatGroup (group_listing group)
IsGroupIn Cif group = Unit {0}

-- ---- why there is no group

-- the input is too long, its text or its file is bad, or what it lists is none or generates none
pub data Cause : Type 0 where
  too_long : Cause
  of_text : (fault : Fault) → Cause
  of_cif : (fault : CifFault) → Cause
  of_group : (error : GroupError) → Cause
  of_generators : (error : GeneratedError) → Cause

-- only a group text has a bad line or generators, and only a CIF file a fault of its words
abbrev pub IsCause : Format → List ℕ → Cause → Type 0
IsCause format input too_long = most_bytes format < length input
IsCause (GroupText notation) input (of_text fault) = IsShort (GroupText notation) input × IsTextFault notation input fault
IsCause Cif input (of_cif fault) = IsShort Cif input × FileSays input (Err fault)
IsCause format input (of_group error) =
    IsShort format input × ((g : Listing) × ListsAll format input g × IsGroupError g error)
IsCause (GroupText notation) input (of_generators error) =
    IsShort (GroupText notation) input × ((g : Listing) × IsGroupText notation input true g × IsGeneratedError g error)
IsCause _ input cause = ⊥

-- what it keeps the program from
abbrev pub obstacle_of : Cause → Obstacle
obstacle_of too_long = obstacles.Refused TooLong
obstacle_of (of_text fault) = obstacles.Refused (Text fault.line fault.column fault.kind)
obstacle_of (of_cif fault) = obstacle_of_cif fault
obstacle_of (of_group error) = obstacle_of_group error
obstacle_of (of_generators error) = obstacle_of_generators error

-- why the input is refused before anything is asked of its group
abbrev pub IsRefusedInput : Format → List ℕ → Refusal → Type 0
IsRefusedInput format input refusal =
    (cause : Cause) × IsCause format input cause × (obstacle_of cause ≡ obstacles.Refused refusal)
