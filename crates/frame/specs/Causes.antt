-- What the steps of a run make, and what keeps them from it.
use Rattle.std.specs.Prelude.{◌≡◌, ℕ, List, Option, Some, Result}
use Rattle.symmetry.specs.Vectors.{Vector}
use Rattle.symmetry.specs.Groups.{Listing}
use Rattle.closure.specs.declared.group.Group.{Group}
use Rattle.closure.specs.Groups.{IsGroupOf}
use Rattle.requests.specs.declared.request.Format.{Format}
use Rattle.requests.specs.declared.obstacle.Obstacle.{Obstacle}
use Rattle.requests.specs.declared.obstacle.Obstacle.TheVariants as obstacles
use Rattle.requests.specs.declared.refusal.Refusal.{Refusal}
use Rattle.frame.specs.Answers.{AnswersInput, RefusesReduced}
use Rattle.frame.specs.Runs.{AsksRow}

-- what keeps the group from a frame, as each listing of it tells
abbrev pub IsGroupsObstacle : Group → Vector → Obstacle → Type 0
IsGroupsObstacle group row (obstacles.Refused refusal) = (g : Listing) → IsGroupOf g group → RefusesReduced g row refusal
IsGroupsObstacle group row obstacles.ReadFault = ⊥
IsGroupsObstacle group row obstacles.NoMemory = Unit {0}

-- the words ask for a row, and the text is the line of its frame over the input
pub record HasAnswer (read : Result (Vector × Format) Refusal) (left : Option (List ℕ)) (text : List ℕ) : Type 0 where
  pub row : Vector
  pub format : Format
  pub asks : AsksRow read row format
  pub answers : (input : List ℕ) → left ≡ Some input → AnswersInput format row input text
