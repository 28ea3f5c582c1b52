use Rattle.std.proofs.Common.{◌≡◌, ◌⊎◌, [], Ok, Err, Result, inl, inr}
use Rattle.triplets.specs.declared.fault.TextFault.{TextFault}
use Rattle.triplets.specs.declared.fault.TextFault.TheVariants as faults
use Rattle.triplets.proofs.Answered.{answer_shown}
use Rattle.triplets.proofs.group.read_in.Goals as goal

-- a call that gave a value did not run out of memory
gave : (u : Unit {0}) (p : Type 0) → ((let z : Result (Unit {0}) TextFault = Ok u in z) ≡ Err faults.NoMemory) ⊎ p → p
gave u p (inl z) = absurd cc
gave u p (inr h) = h

pub returns-in-Ok-clause-answer : goal.returns-in-Ok-clause-answer
returns-in-Ok-clause-answer c = c.finish.ensures.answer c.args.notation c.args.bytes.now (gave c.in-Ok.field-0 _ c.in-Ok.ensures.stands c.args.notation [] c.of-reader.ensures.stands)

pub returns-in-Ok-clause-small : goal.returns-in-Ok-clause-small
returns-in-Ok-clause-small c = c.finish.ensures.small c.args.notation c.args.bytes.now (gave c.in-Ok.field-0 _ c.in-Ok.ensures.stands c.args.notation [] c.of-reader.ensures.stands)

pub returns-in-Err-clause-answer : goal.returns-in-Err-clause-answer
returns-in-Err-clause-answer c = answer_shown c.args.notation c.in-Err.fault c.args.bytes.now (c.in-Err.ensures.answer c.args.notation [] c.of-reader.ensures.stands).fault
