use Rattle.std.proofs.Common.{ℕ, ◌≤◌, List, length, ap, subst, sym, ◌∙◌, Option, Some, None, Result}
use Rattle.std.proofs.lemmas.Bool.{true≢false}
use Rattle.std.specs.Io.KnownBytes.{append_known}
use Rattle.devices.specs.Transfers.{HoldsFront, Offers}
use Rattle.symmetry.specs.Vectors.{Vector}
use Rattle.requests.specs.declared.request.Format.{Format}
use Rattle.requests.specs.declared.refusal.Refusal.{Refusal}
use Rattle.frame.specs.Causes.{HasAnswer}
use Rattle.frame.specs.Runs.{OfFrame}
use Rattle.frame.proofs.RunFacts.{no_answer, refuses_it, refuses_reduced}
use Rattle.frame.proofs.run.run.Goals as goal

pub returns-in-Ok-put_all-clause-refuses_input : goal.returns-in-Ok-put_all-clause-refuses_input
returns-in-Ok-put_all-clause-refuses_input g c =
    λ row format input refusal asks is p. no_answer _ _ row format input asks is _ refusal c.in-Ok.ensures.text p

pub returns-in-Ok-clause-refuses_input : goal.returns-in-Ok-clause-refuses_input
returns-in-Ok-clause-refuses_input g c =
    λ row format input refusal asks is p. no_answer _ _ row format input asks is _ refusal c.in-Ok.ensures.text p

pub returns-in-Err-Refused-clause-refuses_input : goal.returns-in-Err-Refused-clause-refuses_input
returns-in-Err-Refused-clause-refuses_input g c =
    λ row format input refusal asks is p. refuses_it _ _ row format input asks is _ _ c.in-Err-Refused.refusal c.in-Err-Refused.field-0 c.in-Err-Refused.field-0-is
    c.in-Err-Refused.ensures.obstacle refusal c.refuse.result c.refuse.ensures.refused p

pub returns-in-Err-Refused-clause-answers : goal.returns-in-Err-Refused-clause-answers
returns-in-Err-Refused-clause-answers g c =
    λ row format input listing asks is short lists. refuses_reduced _ _ row format input asks is _ _ c.in-Err-Refused.refusal c.in-Err-Refused.field-0 c.in-Err-Refused.field-0-is
    c.in-Err-Refused.ensures.obstacle listing c.refuse.result _ _ _ _ short lists c.refuse.ensures.refused

-- of the line that was made P holds
made_line : (read : Result (Vector × Format) Refusal) (left : Option (List ℕ)) (text : List ℕ) → HasAnswer read left text → (P : List ℕ → Type 0) → P text → OfFrame read left P
made_line read left text made P p = record {
  row = made.row;
  format = made.format;
  asks = made.asks;
  holds = λ input is. (text, made.answers input is, p);
}

pub returns-in-Ok-put_all-clause-out : goal.returns-in-Ok-put_all-clause-out
returns-in-Ok-put_all-clause-out g c =
    made_line _ _ c.in-Ok.line.items c.in-Ok.ensures.text _
    (c.in-Ok-put_all.ensures.all ∙ ap (append_known (g.K.Sink.held c.args.out.now)) c.deref.ensures.value)

pub returns-in-Ok-clause-out : goal.returns-in-Ok-clause-out
returns-in-Ok-clause-out g c =
    made_line _ _ c.in-Ok.line.items c.in-Ok.ensures.text _
    (subst (HoldsFront (g.K.Sink.held c.args.out.now) (g.K.Sink.held c.put_all.new.out)) c.deref.ensures.value c.in-Err.ensures.front)

pub returns-in-Ok-put_all-clause-offers : goal.returns-in-Ok-put_all-clause-offers
returns-in-Ok-put_all-clause-offers g c =
    made_line _ _ c.in-Ok.line.items c.in-Ok.ensures.text _
    (subst (λ (text : List ℕ). Offers g.K.Sink.IsPut text c.args.out.now (Some (length text)) c.put_all.new.out) c.deref.ensures.value c.in-Ok-put_all.ensures.offers_all)

pub returns-in-Ok-clause-offers : goal.returns-in-Ok-clause-offers
returns-in-Ok-clause-offers g c =
    made_line _ _ c.in-Ok.line.items c.in-Ok.ensures.text _
    (subst (λ (text : List ℕ). Offers g.K.Sink.IsPut text c.args.out.now None c.put_all.new.out) c.deref.ensures.value c.in-Err.ensures.offers_front)

pub returns-in-Ok-clause-steady_out : goal.returns-in-Ok-clause-steady_out
returns-in-Ok-clause-steady_out g c = λ n takes fits fault.
    let made = c.in-Ok.ensures.text in
    let fit = fits made.row made.format made.asks in
    let short = fit.2 c.in-Ok.line.items (made.answers fit.0 fit.1) in
    true≢false (sym (c.in-Err.ensures.steady n takes (subst (λ (t : List ℕ). length t ≤ n) (sym c.deref.ensures.value) short)).0)
