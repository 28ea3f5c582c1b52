use Rattle.requests.specs.Questions.{result_map}
use Rattle.requests.specs.Views.{asked_of}
use Rattle.requests.proofs.RunFacts.{no_answer, no_output, refuses_it}
use Rattle.requests.proofs.run.carry_out.Goals as goal

pub returns-in-Ok-put_all-clause-refuses_input : goal.returns-in-Ok-put_all-clause-refuses_input
returns-in-Ok-put_all-clause-refuses_input g c =
    λ asked input refusal asks is p. no_answer (result_map asked_of c.args.read) (g.S.Source.left c.args.source.now) asked input asks is _ refusal c.in-Ok.ensures.text p

pub returns-in-Ok-clause-refuses_input : goal.returns-in-Ok-clause-refuses_input
returns-in-Ok-clause-refuses_input g c =
    λ asked input refusal asks is p. no_answer (result_map asked_of c.args.read) (g.S.Source.left c.args.source.now) asked input asks is _ refusal c.in-Ok.ensures.text p

pub returns-in-Err-Refused-clause-refuses_input : goal.returns-in-Err-Refused-clause-refuses_input
returns-in-Err-Refused-clause-refuses_input g c =
    λ asked input refusal asks is p. refuses_it (result_map asked_of c.args.read) (g.S.Source.left c.args.source.now) asked input asks is
    _ _ c.in-Err-Refused.refusal c.in-Err-Refused.field-0 c.in-Err-Refused.field-0-is c.in-Err-Refused.ensures.obstacle
    refusal c.refuse.result c.refuse.ensures.refused p

pub returns-in-Err-Refused-clause-answers : goal.returns-in-Err-Refused-clause-answers
returns-in-Err-Refused-clause-answers g c =
    λ asked input asks is has. absurd (no_output (result_map asked_of c.args.read) (g.S.Source.left c.args.source.now) asked input asks is
    _ _ c.in-Err-Refused.refusal c.in-Err-Refused.field-0 c.in-Err-Refused.field-0-is c.in-Err-Refused.ensures.obstacle has)
