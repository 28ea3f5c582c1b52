-- What is made of a source is what the words ask for.
use Rattle.std.proofs.Common.{◌≡◌, true, ℕ, List, Option, Some, Result, Ok, Err, IfOk, IfErr, Vec, Global, refl, inr}
use Rattle.symmetry.specs.Groups.{Listing}
use Rattle.closure.specs.declared.group_error.GroupError.{GroupError}
use Rattle.closure.specs.declared.group_error.GroupError.TheVariants as groups
use Rattle.closure.specs.GroupErrors.{IsGroupError}
use Rattle.closure.specs.declared.generated_error.GeneratedError.{GeneratedError}
use Rattle.closure.specs.declared.generated_error.GeneratedError.TheVariants as generators
use Rattle.closure.specs.Derived.{IsGeneratedError}
use Rattle.closure.specs.declared.group.Group.{Group}
use Rattle.triplets.specs.declared.notation.Notation.{Notation}
use Rattle.triplets.specs.Texts.{IsGroupText}
use Rattle.triplets.specs.TextAnswers.{IsFaultOf}
use Rattle.triplets.specs.declared.fault.TextFault.{TextFault}
use Rattle.triplets.specs.declared.fault.TextFault.TheVariants as texts
use Rattle.requests.specs.declared.request.Format.{Format}
use Rattle.requests.specs.declared.request.Format.TheVariants.{GroupText}
use Rattle.requests.specs.declared.obstacle.Obstacle.{Obstacle}
use Rattle.requests.specs.declared.obstacle.Obstacle.TheVariants as obstacles
use Rattle.closure.specs.Groups.{IsGroupOf}
use Rattle.requests.specs.Obstacles.{obstacle_of_generators, obstacle_of_group, obstacle_of_text}
use Rattle.requests.specs.declared.refusal.Refusal.{Refusal}
use Rattle.requests.specs.Questions.{Asked, Question, about, IsRequest}
use Rattle.requests.specs.Inputs.{of_text, of_group, of_generators, IsCause, IsGroupOfInput, IsRefusedInput, IsShort, ListsAll}
use Rattle.requests.specs.Answers.{Answers}
use Rattle.requests.specs.Runs as runs
use Rattle.requests.specs.Causes.{HasAnswer, IsGroupsObstacle, IsObstacle, IsSourceObstacle}

-- ---- the group of an input

module _ (left : Option (List ℕ)) (faults faults' : ℕ) (same : faults' ≡ faults) where
  -- a bad text
  pub text_obstacle : (nt : Notation) (fault : TextFault) → ((input : List ℕ) → left ≡ Some input → IsShort (GroupText nt) input × IsFaultOf nt input fault)
      → IsSourceObstacle (GroupText nt) left faults faults' (obstacle_of_text fault)
  text_obstacle nt (texts.At line column kind) bad = (λ input is. (of_text (record { line = line; column = column; kind = kind }), bad input is, refl), same)
  text_obstacle nt texts.NoMemory bad = same

  -- the error of what is listed
  module _ (format : Format) (g : Listing) (lists : (input : List ℕ) → left ≡ Some input → IsShort format input × ListsAll format input g) where
    cause : (input : List ℕ) (error : GroupError) → IsGroupError g error → left ≡ Some input → IsCause format input (of_group error)
    cause input error h is = let text = lists input is in (text.0, (g, text.1, h))

    pub group_obstacle : (error : GroupError) → IsGroupError g error → IsSourceObstacle format left faults faults' (obstacle_of_group error)
    group_obstacle (groups.TooMany n) h = (λ input is. (of_group (groups.TooMany n), cause input (groups.TooMany n) h is, refl), same)
    group_obstacle groups.TooFine h = (λ input is. (of_group groups.TooFine, cause input groups.TooFine h is, refl), same)
    group_obstacle (groups.Fault fault) h = (λ input is. (of_group (groups.Fault fault), cause input (groups.Fault fault) h is, refl), same)
    group_obstacle groups.NoMemory h = same

  -- the error of listed generators
  module _ (nt : Notation) (g : Listing) (lists : (input : List ℕ) → left ≡ Some input → IsShort (GroupText nt) input × IsGroupText nt input true g) where
    cause_of_generators : (input : List ℕ) (error : GeneratedError) → IsGeneratedError g error → left ≡ Some input → IsCause (GroupText nt) input (of_generators error)
    cause_of_generators input error h is = let text = lists input is in (text.0, (g, text.1, h))

    known_cause : (error : GeneratedError) (r : Refusal) → obstacle_of_generators error ≡ obstacles.Refused r → IsGeneratedError g error
        → (input : List ℕ) → left ≡ Some input → IsRefusedInput (GroupText nt) input r
    known_cause error r e h input is = (of_generators error, cause_of_generators input error h is, e)

    pub generators_obstacle : (error : GeneratedError) → IsGeneratedError g error → IsSourceObstacle (GroupText nt) left faults faults' (obstacle_of_generators error)
    generators_obstacle (generators.TooMany n) h = (known_cause (generators.TooMany n) _ refl h, same)
    generators_obstacle (generators.NoInverse i) h = (known_cause (generators.NoInverse i) _ refl h, same)
    generators_obstacle generators.TooLarge h = (known_cause generators.TooLarge _ refl h, same)
    generators_obstacle generators.TooFine h = (known_cause generators.TooFine _ refl h, same)
    generators_obstacle generators.NoMemory h = same

-- ---- the answer of a group that a source gave

module _ (read : Result Asked Refusal) (format : Format) (question : Question) (asks : IsRequest read (about format question)) (left : Option (List ℕ))
    (group : Group) (is_of : (input : List ℕ) → left ≡ Some input → IsGroupOfInput format input group) where
  pub answered : (result : Result (Vec ℕ Global) Obstacle)
      → IfOk result (λ text. (g : Listing) → IsGroupOf g group → Answers g question text.items)
      → IfOk result (λ text. HasAnswer read left text.items)
  answered (Ok text) answers = record {
    asked = about format question;
    asks = asks;
    answers = λ input is.
        let of = is_of input is in
        record { short = of.short; group = of.some.0; lists = of.some.1; answers = answers of.some.0 (of.is_of of.some.0 of.some.1) };
  }
  answered (Err o) answers = tt

  pub kept_from_answer : (result : Result (Vec ℕ Global) Obstacle) (faults faults' : ℕ) → faults' ≡ faults
      → IfErr result (IsGroupsObstacle group question) → IfErr result (IsObstacle (runs.IsCause read left) faults faults')
  kept_from_answer (Ok text) faults faults' same o = tt
  kept_from_answer (Err (obstacles.Refused r)) faults faults' same o = (
    inr (about format question, asks, λ input is. let of = is_of input is in inr (of.short, of.some, λ g lists. o g (of.is_of g lists))),
    same,
  )
  kept_from_answer (Err obstacles.ReadFault) faults faults' same o = absurd o
  kept_from_answer (Err obstacles.NoMemory) faults faults' same o = same
