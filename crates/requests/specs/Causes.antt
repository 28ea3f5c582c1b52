-- What the steps of a run make, and what keeps them from it.
use Rattle.std.specs.Prelude.{◌≡◌, ◌≢◌, ◌⊎◌, ℕ, List, Option, Some, Result, Ok, Err}
use Rattle.symmetry.specs.Groups.{Listing}
use Rattle.devices.specs.Calls.{Rose}
use Rattle.closure.specs.declared.group.Group.{Group}
use Rattle.requests.specs.declared.request.Format.{Format}
use Rattle.requests.specs.declared.obstacle.Obstacle.{Obstacle}
use Rattle.requests.specs.declared.obstacle.Obstacle.TheVariants as obstacles
use Rattle.requests.specs.declared.outcome.Outcome.{Outcome}
use Rattle.requests.specs.declared.outcome.Outcome.TheVariants as outcomes
use Rattle.requests.specs.declared.refusal.Refusal.{Refusal}
use Rattle.requests.specs.declared.refusal.Refusal.TheVariants.{TooLong}
use Rattle.requests.specs.Questions.{Asked, Question, IsRequest}
use Rattle.requests.specs.Inputs.{IsRefusedInput}
use Rattle.closure.specs.Groups.{IsGroupOf}
use Rattle.requests.specs.Answers.{IsInput, IsOutput, RefusesQuestion}

-- what keeps a step from what it makes: a refusal is explained, and the count of faults rose where the source failed alone
abbrev pub IsObstacle : (Refusal → Type 0) → ℕ → ℕ → Obstacle → Type 0
IsObstacle Explains faults faults' (obstacles.Refused refusal) = Explains refusal × (faults' ≡ faults)
IsObstacle Explains faults faults' obstacles.ReadFault = Rose faults faults'
IsObstacle Explains faults faults' obstacles.NoMemory = faults' ≡ faults

-- ---- the group of an input

-- what keeps a source from a group
abbrev pub IsSourceObstacle : Format → Option (List ℕ) → ℕ → ℕ → Obstacle → Type 0
IsSourceObstacle format left faults faults' obstacle =
    IsObstacle (λ refusal. (input : List ℕ) → left ≡ Some input → IsRefusedInput format input refusal) faults faults' obstacle

-- the source was read to its end before this came up
abbrev pub IsReadWhole : {A : Type 0} → Result A Obstacle → Type 0
IsReadWhole (Ok made) = Unit {0}
IsReadWhole (Err (obstacles.Refused refusal)) = refusal ≢ TooLong
IsReadWhole (Err obstacles.ReadFault) = ⊥
IsReadWhole (Err obstacles.NoMemory) = ⊥

-- ---- the answer of a group

-- what keeps the group from an answer, as each listing of it tells
abbrev pub IsGroupsObstacle : Group → Question → Obstacle → Type 0
IsGroupsObstacle group question (obstacles.Refused refusal) = (g : Listing) → IsGroupOf g group → RefusesQuestion g question refusal
IsGroupsObstacle group question obstacles.ReadFault = ⊥
IsGroupsObstacle group question obstacles.NoMemory = Unit {0}

-- ---- the answer to words

-- the words are a request, and the text is the answer over its input
pub record HasAnswer (read : Result Asked Refusal) (left : Option (List ℕ)) (text : List ℕ) : Type 0 where
  pub asked : Asked
  pub asks : IsRequest read asked
  pub answers : (input : List ℕ) → IsInput asked left input → IsOutput asked input text

-- this refusal, unless memory ran out for its line
abbrev pub IsRefusedOr : Refusal → Outcome → Type 0
IsRefusedOr refusal outcome = (outcome ≡ outcomes.Refused refusal) ⊎ (outcome ≡ outcomes.NoMemory)
