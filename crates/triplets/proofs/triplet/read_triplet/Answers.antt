use Rattle.std.proofs.Common.{◌≡◌, length, get_or, sym, ◌∙◌, ap, refl, arith}
use Rattle.triplets.specs.declared.notation.Notation.TheVariants.{Triplets}
use Rattle.triplets.specs.Marks.{mark}
use Rattle.triplets.specs.TripletReading.{step}
use Rattle.triplets.proofs.Wholes.{is_triplet}
use Rattle.motions.specs.Views.{motion_of}
use Rattle.triplets.proofs.KindFacts.{not_good}
use Rattle.triplets.proofs.Sizes.{triplet_small}
use Rattle.triplets.proofs.Bounds.{within_step}
use Rattle.triplets.proofs.Ends.{step_on, stopped_bad, operation_fault, all_read, fault_end, one_value}
use Rattle.triplets.proofs.triplet.read_triplet.Goals as goal
use Rattle.triplets.proofs.Runs.{going, stopped}

-- what the reader did with the byte
pub stops : (c : goal.In-Err) → step Triplets (mark Triplets (get_or c.args.bytes.now c.loop-i.i 0)) c.loop-i.reader ≡ stopped c.in-Err.kind
stops c = ap (λ m. step Triplets m c.loop-i.reader) (sym c.mark_of.ensures) ∙ (sym c.step.ensures ∙ c.in-Err.is)

pub returns-in-Err-clause-only : goal.returns-in-Err-clause-only
returns-in-Err-clause-only c v h = absurd (stopped_bad Triplets c.loop-i.i c.args.bytes.now c.loop-i.reader c.in-Err.kind c.loop-i-test.true c.loop-i.invariant.read (stops c) (v, h))

pub returns-in-Err-clause-fault : goal.returns-in-Err-clause-fault
returns-in-Err-clause-fault c = (c.loop-i.i, refl, operation_fault Triplets refl c.loop-i.i c.args.bytes.now c.loop-i.reader c.in-Err.kind c.loop-i-test.true c.loop-i.invariant.read (stops c))

pub goes : (c : goal.In-Ok) → step Triplets (mark Triplets (get_or c.args.bytes.now c.loop-i.i 0)) c.loop-i.reader ≡ going c.in-Ok.next
goes c = ap (λ m. step Triplets m c.loop-i.reader) (sym c.mark_of.ensures) ∙ (sym c.step.ensures ∙ c.in-Ok.is)

pub loop-i-preserved : goal.loop-i-preserved
loop-i-preserved c = record {
  read = step_on Triplets c.loop-i.i c.args.bytes.now c.loop-i.reader (going c.in-Ok.next) c.loop-i-test.true c.loop-i.invariant.read (goes c);
  within = within_step Triplets c.loop-i.i c.loop-i.reader c.in-Ok.next (get_or c.args.bytes.now c.loop-i.i 0) c.loop-i.invariant.within (goes c);
}

pub returns-in-Some-clause-found : goal.returns-in-Some-clause-found
returns-in-Some-clause-found c =
    is_triplet Triplets c.args.bytes.now c.loop-i.reader c.in-Some.value (all_read Triplets c.loop-i.i c.args.bytes.now c.loop-i.reader (omega arith) c.loop-i.invariant.read) (sym c.value.ensures ∙ c.in-Some.is)

pub returns-in-Some-clause-small : goal.returns-in-Some-clause-small
returns-in-Some-clause-small c =
    triplet_small Triplets c.args.bytes.now (motion_of c.in-Some.value) (omega arith)
    (is_triplet Triplets c.args.bytes.now c.loop-i.reader c.in-Some.value (all_read Triplets c.loop-i.i c.args.bytes.now c.loop-i.reader (omega arith) c.loop-i.invariant.read) (sym c.value.ensures ∙ c.in-Some.is))

pub returns-in-Some-clause-only : goal.returns-in-Some-clause-only
returns-in-Some-clause-only c v h =
    one_value Triplets c.args.bytes.now c.loop-i.reader c.in-Some.value v (all_read Triplets c.loop-i.i c.args.bytes.now c.loop-i.reader (omega arith) c.loop-i.invariant.read) (sym c.value.ensures ∙ c.in-Some.is) h

pub returns-in-None-clause-only : goal.returns-in-None-clause-only
returns-in-None-clause-only c v h =
    absurd (not_good Triplets c.args.bytes.now c.loop-i.reader (all_read Triplets c.loop-i.i c.args.bytes.now c.loop-i.reader (omega arith) c.loop-i.invariant.read) (sym c.value.ensures ∙ c.in-None.is) (v, h))

pub returns-in-None-clause-fault : goal.returns-in-None-clause-fault
returns-in-None-clause-fault c =
    (length c.args.bytes.now, refl, fault_end Triplets c.args.bytes.now c.loop-i.reader (all_read Triplets c.loop-i.i c.args.bytes.now c.loop-i.reader (omega arith) c.loop-i.invariant.read) (sym c.value.ensures ∙ c.in-None.is))
