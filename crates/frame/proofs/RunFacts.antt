-- What was made for the words is the frame of their row, or the one refusal of an input that gives no group.
use Rattle.std.proofs.Common.{◌≡◌, ℕ, List, sym, subst, inl, inr, Option, Some, Result}
use Rattle.symmetry.specs.Vectors.{Vector}
use Rattle.symmetry.specs.Groups.{Listing}
use Rattle.requests.specs.declared.request.Format.{Format}
use Rattle.requests.specs.declared.refusal.Refusal.{Refusal}
use Rattle.requests.specs.declared.obstacle.Obstacle.{Obstacle}
use Rattle.requests.specs.declared.obstacle.Obstacle.TheVariants as obstacles
use Rattle.requests.specs.declared.outcome.Outcome.{Outcome}
use Rattle.requests.specs.Causes.{IsObstacle, IsRefusedOr}
use Rattle.requests.specs.Inputs.{IsRefusedInput, IsShort, ListsGroup}
use Rattle.requests.specs.Questions.{image_rows, IsWordsRefusal}
use Rattle.requests.specs.Runs.{Refuses}
use Rattle.requests.proofs.OneAnswer.{one_refusal}
use Rattle.requests.proofs.OneCause.{no_group_and_cause}
use Rattle.frame.specs.Answers.{AnswersInput, RefusesInput, RefusesReduced}
use Rattle.frame.specs.Causes.{HasAnswer}
use Rattle.frame.specs.Runs.{AsksRow, GivesFrame, IsCause}

-- an input that lists a group is not refused before its frame is
module _ (format : Format) (input : List ℕ) (g : Listing) (short : IsShort format input) (lists : ListsGroup format input g) where
  group_and_refusal : (r : Refusal) → IsRefusedInput format input r → ⊥
  group_and_refusal r (cause, p, e) = no_group_and_cause format input r g cause short lists p e

  pub reduced_refused : (row : Vector) (r : Refusal) → RefusesInput format row input r → RefusesReduced g row r
  reduced_refused row r (inl p) = absurd (group_and_refusal r p)
  reduced_refused row r (inr (short', some, q)) = q g lists

-- one that lists none is refused for one reason
one_reason : (format : Format) (row : Vector) (input : List ℕ) (r r' : Refusal) → RefusesInput format row input r → IsRefusedInput format input r' → r ≡ r'
one_reason format row input r r' (inl p) q = one_refusal format (image_rows row) input r r' (inl p) (inl q)
one_reason format row input r r' (inr (short, (g, lists), p)) q = absurd (group_and_refusal format input g short lists r' q)

not_refused : (read : Result (Vector × Format) Refusal) (row : Vector) (format : Format) (r : Refusal) → AsksRow read row format → IsWordsRefusal read r → ⊥
not_refused read row format r p q = cc

-- what holds of any row of the words and its format holds of this
here : (read : Result (Vector × Format) Refusal) (row row' : Vector) (format format' : Format) → AsksRow read row format → AsksRow read row' format'
    → (P : Vector → Format → Type 0) → P row' format' → P row format
here read row row' format format' p q P h =
    let same : (row', format') ≡ (row, format) = cc in subst (λ (asked : Vector × Format). P asked.0 asked.1) same h

module _ (read : Result (Vector × Format) Refusal) (left : Option (List ℕ)) (row : Vector) (format : Format) (input : List ℕ) (asks : AsksRow read row format)
    (is : left ≡ Some input) where
  -- an input that gives no group has no answer
  pub no_answer : (text : List ℕ) (refusal : Refusal) → HasAnswer read left text → IsRefusedInput format input refusal → ⊥
  no_answer text refusal made p =
      let answer = here read row made.row format made.format asks made.asks (λ v f. AnswersInput f v input text) (made.answers input is) in
      group_and_refusal format input answer.group answer.short answer.lists refusal p

  module _ (faults faults' : ℕ) (r : Refusal) (obstacle : Obstacle) (told : obstacle ≡ obstacles.Refused r)
      (kept : IsObstacle (IsCause read left) faults faults' obstacle) where
    cause : IsCause read left r
    cause = (subst (IsObstacle (IsCause read left) faults faults') told kept).0

    -- the words are not refused, so that the input is
    from_input : IsCause read left r → RefusesInput format row input r
    from_input (inl q) = absurd (not_refused read row format r asks q)
    from_input (inr (row', format', asks', all)) = here read row row' format format' asks asks' (λ v f. RefusesInput f v input r) (all input is)

    pub refuses_it : (refusal : Refusal) (outcome : Outcome) → IsRefusedOr r outcome → IsRefusedInput format input refusal → Refuses refusal outcome
    refuses_it refusal outcome (inl ended) p = subst (Refuses refusal) (sym ended) (one_reason format row input r refusal (from_input cause) p)
    refuses_it refusal outcome (inr ended) p = subst (Refuses refusal) (sym ended) tt

    pub refuses_reduced : (g : Listing) (outcome : Outcome) (count count' put put' : ℕ) → IsShort format input → ListsGroup format input g
        → IsRefusedOr r outcome → GivesFrame g row outcome count count' put put'
    refuses_reduced g outcome count count' put put' short lists (inl ended) =
        subst (λ (o : Outcome). GivesFrame g row o count count' put put') (sym ended) (reduced_refused format input g short lists row r (from_input cause))
    refuses_reduced g outcome count count' put put' short lists (inr ended) =
        subst (λ (o : Outcome). GivesFrame g row o count count' put put') (sym ended) tt
