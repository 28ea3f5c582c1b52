-- Words ask for one thing, and an input has one answer, or one refusal.
use Rattle.std.proofs.Common.{◌≡◌, ℕ, List, Result, sym, ap, ◌∙◌, inl, inr}
use Rattle.symmetry.specs.Groups.{Listing}
use Rattle.symmetry.specs.Vectors.{Vector}
use Rattle.symmetry.specs.Frames.{Basis}
use Rattle.motions.specs.declared.basis.FrameFault.{FrameFault}
use Rattle.motions.specs.declared.basis.FrameFault.TheVariants as frames
use Rattle.plane_lattice.specs.FrameOf.{IsFrameFault}
use Rattle.plane_lattice.proofs.FrameListings.{one_frame_fault}
use Rattle.requests.specs.declared.request.Format.{Format}
use Rattle.requests.specs.declared.refusal.Refusal.{Refusal}
use Rattle.requests.specs.declared.obstacle.Obstacle.TheVariants as obstacles
use Rattle.requests.specs.Obstacles.{IsFairFrame, RefusesFrame, refusal_of_frame}
use Rattle.requests.specs.Questions.{Asked, Question, at_height, between_heights, all_heights, image_rows, survey_within, along_line, all_lines, IsRequest, IsWordsRefusal}
use Rattle.requests.specs.Inputs.{obstacle_of}
use Rattle.requests.specs.Answers.{Answers, AnswersInput, IsFair, IsFairInput, RefusesInput, RefusesQuestion}
use Rattle.requests.proofs.OneCause.{no_group_and_cause, one_cause}
use Rattle.requests.proofs.RodFrames.{answered_rod_fair, one_rod_refusal, rod_frame_holds}

-- ---- words

pub one_request : (read : Result Asked Refusal) (a a' : Asked) → IsRequest read a → IsRequest read a' → a ≡ a'
one_request read a a' p q = cc

pub one_words_refusal : (read : Result Asked Refusal) (r r' : Refusal) → IsWordsRefusal read r → IsWordsRefusal read r' → r ≡ r'
one_words_refusal read r r' p q = cc

pub not_refused : (read : Result Asked Refusal) (a : Asked) (refusal : Refusal) → IsRequest read a → IsWordsRefusal read refusal → ⊥
not_refused read a refusal p h = cc

-- ---- why a group has no answer

module _ (g : Listing) (row : Vector) (basis : Basis) where
  one_frame_refusal : (r r' : Refusal) → RefusesFrame g row basis r → RefusesFrame g row basis r' → r ≡ r'
  one_frame_refusal r r' p q = p.2 ∙ ap refusal_of_frame (one_frame_fault g row basis p.0 q.0 p.1 q.1) ∙ sym q.2

  frame_holds : (f : FrameFault) → IsFairFrame g row basis → IsFrameFault g row basis f → ⊥
  frame_holds frames.NotFrame fair p = p fair.is_frame
  frame_holds frames.Skewed fair p = fair.not_skewed p.1

one_question_refusal : (g : Listing) (question : Question) (r r' : Refusal) → RefusesQuestion g question r → RefusesQuestion g question r' → r ≡ r'
one_question_refusal g (at_height row basis s) r r' p q = one_frame_refusal g row basis r r' p q
one_question_refusal g (between_heights row basis low high) r r' p q = one_frame_refusal g row basis r r' p q
one_question_refusal g (all_heights row basis form) r r' p q = one_frame_refusal g row basis r r' p q
one_question_refusal g (image_rows row) r r' p q = p.1 ∙ sym q.1
one_question_refusal g (survey_within n) r r' p q = absurd p
one_question_refusal g (along_line u a b point) r r' p q = one_rod_refusal g u a b r r' p q
one_question_refusal g (all_lines row) r r' p q = absurd p

fair_and_question_refusal : (g : Listing) (question : Question) (r : Refusal) → IsFair g question → RefusesQuestion g question r → ⊥
fair_and_question_refusal g (at_height row basis s) r fair p = frame_holds g row basis p.0 fair p.1
fair_and_question_refusal g (between_heights row basis low high) r fair p = frame_holds g row basis p.0 fair p.1
fair_and_question_refusal g (all_heights row basis form) r fair p = frame_holds g row basis p.0 fair p.1
fair_and_question_refusal g (image_rows row) r fair p = fair p.0
fair_and_question_refusal g (survey_within n) r fair p = p
fair_and_question_refusal g (along_line u a b point) r fair p = rod_frame_holds g u a b p.0 fair p.1
fair_and_question_refusal g (all_lines row) r fair p = p

-- what is answered may be asked
answered_fair : (g : Listing) (question : Question) (text : List ℕ) → Answers g question text → IsFair g question
answered_fair g (at_height row basis s) text answer = answer.frame
answered_fair g (between_heights row basis low high) text answer = answer.frame
answered_fair g (all_heights row basis form) text answer = answer.frame
answered_fair g (image_rows row) text answer = answer.not_wide
answered_fair g (survey_within n) text answer = tt
answered_fair g (along_line u a b point) text answer = answered_rod_fair g u a b point text answer
answered_fair g (all_lines row) text answer = tt

-- ---- over an input

module _ (format : Format) (question : Question) (input : List ℕ) where
  pub one_refusal : (r r' : Refusal) → RefusesInput format question input r → RefusesInput format question input r' → r ≡ r'
  one_refusal r r' (inl (c, p, e)) (inl (d, q, e')) =
      let same : obstacle_of c ≡ obstacle_of d = ap obstacle_of (one_cause format input r r' c d p q e e') in
      let is : obstacles.Refused r ≡ obstacles.Refused r' = sym e ∙ same ∙ e' in cc
  one_refusal r r' (inl (c, p, e)) (inr (short, (g, lists), q)) = absurd (no_group_and_cause format input r g c short lists p e)
  one_refusal r r' (inr (short, (g, lists), p)) (inl (c, q, e)) = absurd (no_group_and_cause format input r' g c short lists q e)
  one_refusal r r' (inr (short, (g, lists), p)) (inr (short', some, q)) = one_question_refusal g question r r' (p g lists) (q g lists)

  pub fair_and_refusal : (r : Refusal) → IsFairInput format question input → RefusesInput format question input r → ⊥
  fair_and_refusal r fair (inl (c, p, e)) = no_group_and_cause format input r fair.group c fair.short fair.lists p e
  fair_and_refusal r fair (inr (short, some, p)) = fair_and_question_refusal fair.group question r fair.fair (p fair.group fair.lists)

  pub answer_and_refusal : (text : List ℕ) (r : Refusal) → AnswersInput format question input text → RefusesInput format question input r → ⊥
  answer_and_refusal text r answer = fair_and_refusal r (record {
    short = answer.short;
    group = answer.group;
    lists = answer.lists;
    fair = answered_fair answer.group question text answer.answers;
  })
