use Rattle.std.proofs.Common.{get_or, refl, sym, ap, ◌∙◌, ◌++◌, arith, inr, Ok, Err}
use Rattle.triplets.specs.TextReading.{kept, byte_step, kept_start}
use Rattle.triplets.proofs.TextFacts.{text_fault, gives_along, again, again_stands, stands_all, all_read, err_stands}
use Rattle.triplets.proofs.Answered.{answer_so_far}
use Rattle.triplets.proofs.FirstKept.{reader_keeps}
use Rattle.triplets.proofs.text.LineReader.feed.Goals as goal
use Rattle.triplets.proofs.Runs.{run_next}

pub returns-in-Some-clause-stands : goal.returns-in-Some-clause-stands
returns-in-Some-clause-stands c = inr (λ nt text h. again_stands nt c.args.self.now _ c.in-Some.fault text c.args.piece.now c.in-Some.is refl refl refl h)

pub returns-in-Some-clause-answer : goal.returns-in-Some-clause-answer
returns-in-Some-clause-answer c nt text h =
    answer_so_far nt (Err c.in-Some.fault) (kept c.args.self.now) _ (again nt c.args.self.now c.in-Some.fault text c.args.piece.now c.in-Some.is h)

pub returns-in-Err-clause-stands : goal.returns-in-Err-clause-stands
returns-in-Err-clause-stands c =
    err_stands c.args.self.now _ c.in-Err.fault
    (byte_step c.loop-byte.self.notation (get_or c.args.piece.now c.loop-byte.byte-index 0) (kept c.loop-byte.self)) c.args.piece.now
    (c.in-Err.ensures.notation ∙ c.loop-byte.invariant.notation) refl (c.in-Err.ensures.fed ∙ c.loop-byte.invariant.fed) c.in-Err.ensures.kept
    (λ nt text f h e. text_fault nt text c.args.piece.now c.loop-byte.byte-index (kept c.loop-byte.self) f c.loop-byte-test.true (c.loop-byte.invariant.run nt text h)
    (ap (λ x. byte_step x (get_or c.args.piece.now c.loop-byte.byte-index 0) (kept c.loop-byte.self)) (sym (c.loop-byte.invariant.notation ∙ h.reads)) ∙ e))

pub returns-in-Err-clause-answer : goal.returns-in-Err-clause-answer
returns-in-Err-clause-answer c nt text h =
    answer_so_far nt (Err c.in-Err.fault) (kept c.loop-byte.self) _
    (gives_along c.in-Err.fault (byte_step c.loop-byte.self.notation (get_or c.args.piece.now c.loop-byte.byte-index 0) (kept c.loop-byte.self)) _
    (λ f e. text_fault nt text c.args.piece.now c.loop-byte.byte-index (kept c.loop-byte.self) f c.loop-byte-test.true (c.loop-byte.invariant.run nt text h)
    (ap (λ x. byte_step x (get_or c.args.piece.now c.loop-byte.byte-index 0) (kept c.loop-byte.self)) (sym (c.loop-byte.invariant.notation ∙ h.reads)) ∙ e)) c.in-Err.ensures.kept)

pub loop-byte-preserved : goal.loop-byte-preserved
loop-byte-preserved c = record {
  run = λ nt text h.
      run_next (byte_step nt) (Ok kept_start) text c.args.piece.now c.loop-byte.byte-index (kept c.loop-byte.self) _ c.loop-byte-test.true (c.loop-byte.invariant.run nt text h)
      (ap (λ x. byte_step x (get_or c.args.piece.now c.loop-byte.byte-index 0) (kept c.loop-byte.self)) (sym (c.loop-byte.invariant.notation ∙ h.reads)) ∙ c.in_default-advance.ensures.kept);
  notation = c.in_default-advance.ensures.notation ∙ c.loop-byte.invariant.notation;
  fault = c.in_default-advance.ensures.fault ∙ c.loop-byte.invariant.fault;
  fed = c.in_default-advance.ensures.fed ∙ c.loop-byte.invariant.fed;
  line = omega (arith, c.in_default-advance.ensures.line, c.loop-byte.invariant.line);
  column = omega (arith, c.in_default-advance.ensures.column, c.loop-byte.invariant.column);
}

pub returns-clause-stands : goal.returns-clause-stands
returns-clause-stands c =
    inr (λ nt text h. stands_all nt c.args.self.now c.loop-byte.self text c.args.piece.now c.loop-byte.byte-index (omega arith) (c.loop-byte.invariant.run nt text h)
    c.loop-byte.invariant.notation c.loop-byte.invariant.fault c.loop-byte.invariant.fed h)

pub returns-clause-answer : goal.returns-clause-answer
returns-clause-answer c nt text h =
    answer_so_far nt (Ok tt) (kept c.loop-byte.self) _ (all_read nt text c.args.piece.now c.loop-byte.byte-index (kept c.loop-byte.self) (omega arith) (c.loop-byte.invariant.run nt text h))

pub returns-clause-told : goal.returns-clause-told
returns-clause-told c nt text h =
    reader_keeps nt c.loop-byte.self (text ++ c.args.piece.now) (all_read nt text c.args.piece.now c.loop-byte.byte-index (kept c.loop-byte.self) (omega arith) (c.loop-byte.invariant.run nt text h))
