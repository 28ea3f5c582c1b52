-- The line that is made of the group that a source gave is what the words ask for.
use Rattle.std.proofs.Common.{◌≡◌, ℕ, List, Option, Some, Result, Ok, Err, IfOk, IfErr, Vec, Global, inr}
use Rattle.symmetry.specs.Vectors.{Vector}
use Rattle.symmetry.specs.Groups.{Listing}
use Rattle.closure.specs.declared.group.Group.{Group}
use Rattle.closure.specs.Groups.{IsGroupOf}
use Rattle.requests.specs.declared.request.Format.{Format}
use Rattle.requests.specs.declared.obstacle.Obstacle.{Obstacle}
use Rattle.requests.specs.declared.obstacle.Obstacle.TheVariants as obstacles
use Rattle.requests.specs.declared.refusal.Refusal.{Refusal}
use Rattle.requests.specs.Inputs.{IsGroupOfInput}
use Rattle.frame.specs.Answers.{IsFrameAnswer}
use Rattle.requests.specs.Causes.{IsObstacle}
use Rattle.frame.specs.Causes.{HasAnswer, IsGroupsObstacle}
use Rattle.frame.specs.Runs.{AsksRow, IsCause}

module _ (read : Result (Vector × Format) Refusal) (row : Vector) (format : Format) (asks : AsksRow read row format) (left : Option (List ℕ))
    (group : Group) (is_of : (input : List ℕ) → left ≡ Some input → IsGroupOfInput format input group) where
  pub answered : (result : Result (Vec ℕ Global) Obstacle)
      → IfOk result (λ text. (g : Listing) → IsGroupOf g group → IsFrameAnswer g row text.items)
      → IfOk result (λ text. HasAnswer read left text.items)
  answered (Ok text) answers = record {
    row = row;
    format = format;
    asks = asks;
    answers = λ input is.
        let of = is_of input is in
        record { short = of.short; group = of.some.0; lists = of.some.1; answers = answers of.some.0 (of.is_of of.some.0 of.some.1) };
  }
  answered (Err o) answers = tt

  pub kept_from_answer : (result : Result (Vec ℕ Global) Obstacle) (faults faults' : ℕ) → faults' ≡ faults
      → IfErr result (IsGroupsObstacle group row) → IfErr result (IsObstacle (IsCause read left) faults faults')
  kept_from_answer (Ok text) faults faults' same o = tt
  kept_from_answer (Err (obstacles.Refused r)) faults faults' same o = (
    inr (row, format, asks, λ input is. let of = is_of input is in inr (of.short, of.some, λ g lists. o g (of.is_of g lists))),
    same,
  )
  kept_from_answer (Err obstacles.ReadFault) faults faults' same o = absurd o
  kept_from_answer (Err obstacles.NoMemory) faults faults' same o = same
