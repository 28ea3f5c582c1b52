-- What was made for the words is what they ask for: the one answer, or the one refusal.
use Rattle.std.proofs.Common.{◌≡◌, ℕ, List, sym, subst, inl, inr, Option, Result}
use Rattle.requests.specs.declared.refusal.Refusal.{Refusal}
use Rattle.requests.specs.declared.obstacle.Obstacle.{Obstacle}
use Rattle.requests.specs.declared.obstacle.Obstacle.TheVariants as obstacles
use Rattle.requests.specs.declared.outcome.Outcome.{Outcome}
use Rattle.requests.specs.Questions.{Asked, about, tabulate, IsRequest}
use Rattle.requests.specs.Answers.{HasOutput, IsInput, IsInputRefusal, IsOutput}
use Rattle.requests.specs.Runs.{IsCause, Refuses}
use Rattle.requests.specs.Causes.{HasAnswer, IsObstacle, IsRefusedOr}
use Rattle.requests.proofs.OneAnswer.{answer_and_refusal, fair_and_refusal, not_refused, one_refusal, one_request}

-- a request is refused or answered, and in one way
module _ (input : List ℕ) where
  pub one_input_refusal : (asked : Asked) (r r' : Refusal) → IsInputRefusal asked input r → IsInputRefusal asked input r' → r ≡ r'
  one_input_refusal (about format question) r r' p q = one_refusal format question input r r' p q
  one_input_refusal (tabulate table) r r' p q = absurd p

  pub output_and_refusal : (asked : Asked) (text : List ℕ) (r : Refusal) → IsOutput asked input text → IsInputRefusal asked input r → ⊥
  output_and_refusal (about format question) text r answer p = answer_and_refusal format question input text r answer p
  output_and_refusal (tabulate table) text r answer p = p

  pub has_output_and_refusal : (asked : Asked) (r : Refusal) → HasOutput asked input → IsInputRefusal asked input r → ⊥
  has_output_and_refusal (about format question) r fair p = fair_and_refusal format question input r fair p
  has_output_and_refusal (tabulate table) r fair p = p

module _ (read : Result Asked Refusal) (left : Option (List ℕ)) where
  module _ (asked : Asked) (input : List ℕ) (asks : IsRequest read asked) (is : IsInput asked left input) where
    -- what holds of any request of the words over its input holds of this
    here : (other : Asked) → IsRequest read other → (P : Asked → Type 0) → (IsInput other left input → P other) → P asked
    here other others P h =
        let e = one_request read other asked others asks in subst P e (h (subst (λ (a : Asked). IsInput a left input) (sym e) is))

    -- an input that is refused is not answered, and for one reason
    pub no_answer : (text : List ℕ) (refusal : Refusal) → HasAnswer read left text → IsInputRefusal asked input refusal → ⊥
    no_answer text refusal made p =
        output_and_refusal input asked text refusal (here made.asked made.asks (λ a. IsOutput a input text) (made.answers input)) p

    -- nor is one that has to be answered refused
    module _ (faults faults' : ℕ) (r : Refusal) (obstacle : Obstacle) (told : obstacle ≡ obstacles.Refused r)
        (kept : IsObstacle (IsCause read left) faults faults' obstacle) where
      cause : IsCause read left r
      cause = (subst (IsObstacle (IsCause read left) faults faults') told kept).0

      -- the cause of the refusal is one of the words, or of the input
      for_cause : {P : Type 0} → (IsInputRefusal asked input r → P) → IsCause read left r → P
      for_cause of (inl q) = absurd (not_refused read asked r asks q)
      for_cause of (inr (other, others, all)) = of (here other others (λ a. IsInputRefusal a input r) (all input))

      pub refuses_it : (refusal : Refusal) (outcome : Outcome) → IsRefusedOr r outcome → IsInputRefusal asked input refusal → Refuses refusal outcome
      refuses_it refusal outcome (inl ended) p =
          subst (Refuses refusal) (sym ended) (for_cause (λ q. one_input_refusal input asked r refusal q p) cause)
      refuses_it refusal outcome (inr ended) p = subst (Refuses refusal) (sym ended) tt

      pub no_output : HasOutput asked input → ⊥
      no_output out = for_cause (has_output_and_refusal input asked r out) cause
