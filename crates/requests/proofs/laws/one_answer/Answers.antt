use Rattle.requests.proofs.RunFacts.{has_output_and_refusal, one_input_refusal, output_and_refusal}
use Rattle.requests.proofs.laws.one_answer.Goals as goal

pub returns-clause-refusal : goal.returns-clause-refusal
returns-clause-refusal c = λ asked input. one_input_refusal input asked

pub returns-clause-answered : goal.returns-clause-answered
returns-clause-answered c = λ asked input. output_and_refusal input asked

pub returns-clause-asked : goal.returns-clause-asked
returns-clause-asked c = λ asked input. has_output_and_refusal input asked
