use Rattle.std.proofs.Common.{ℕ, List, arith, Ok, ap, subst, sym, ◌∙◌}
use Rattle.triplets.specs.declared.notation.Notation.{Notation}
use Rattle.triplets.specs.TextReading.{outcome, finished, kept, Refuses, Stands}
use Rattle.triplets.specs.TextAnswers.{IsAnswer}
use Rattle.triplets.proofs.TextFacts.{stands_refuses, stands_kept}
use Rattle.triplets.proofs.Answered.{refuses_shown, answer_shown, answer, answer_passed, answer_small}
use Rattle.motions.specs.Views.{listing_of}
use Rattle.triplets.proofs.FlatTexts.{listed_in}
use Rattle.triplets.proofs.text.LineReader.finish.Goals as goal

pub returns-in-Some-clause-answer : goal.returns-in-Some-clause-answer
returns-in-Some-clause-answer c nt text h = answer_shown nt c.in-Some.fault text (refuses_shown nt c.in-Some.fault text (stands_refuses nt c.args.self c.in-Some.fault text c.in-Some.is h))

pub returns-in_err-end_line-clause-answer : goal.returns-in_err-end_line-clause-answer
returns-in_err-end_line-clause-answer c nt text h =
    answer_passed nt c.in_err-end_line.field-0.0 c.from_residual.result text c.from_residual.ensures.1
    (subst (Refuses c.in_err-end_line.field-0.0) (sym (ap (outcome nt) (stands_kept nt c.args.self text h c.in_default.is)))
    (subst (λ x. Refuses c.in_err-end_line.field-0.0 (finished x (kept c.args.self))) h.reads c.in_err-end_line.ensures.value))

listed : (c : goal.In_ok-end_line) (nt : Notation) (text : List ℕ) → Stands nt c.args.self text → IsAnswer nt text (Ok c.end_line.new.self.listed)
listed c nt text h =
    answer nt (Ok c.end_line.new.self.listed) text
    (ap (outcome nt) (stands_kept nt c.args.self text h c.in_default.is) ∙ (ap (λ x. finished x (kept c.args.self)) (sym h.reads) ∙ c.in_ok-end_line.ensures.value))

pub returns-clause-answer : goal.returns-clause-answer
returns-clause-answer c nt text h = listed c nt text h

pub returns-clause-small : goal.returns-clause-small
returns-clause-small c nt text h =
    let few = c.args.self.few in
    let fed = h.fed in
    answer_small nt (Ok c.end_line.new.self.listed) text (omega arith) (listed c nt text h)

pub returns-clause-flat : goal.returns-clause-flat
returns-clause-flat c nt text h =
    let l = c.end_line.new.self.listed in
    listed_in nt text l.generated (listing_of l) ((listed c nt text h).found)
