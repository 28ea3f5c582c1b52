use Rattle.std.proofs.Common.{rules}
use Rattle.triplets.specs.declared.notation.Notation.TheVariants.{Pairs}
use Rattle.motions.specs.Views.{row_of}
use Rattle.requests.specs.declared.request.Format.{Format}
use Rattle.requests.specs.declared.request.Format.TheVariants.{GroupText}
use Rattle.requests.specs.Questions.{about, all_lines, IsRequest, result_map}
use Rattle.requests.specs.Views.{asked_of, question_of}
use Rattle.requests.proofs.Reading.{answered, kept_from_answer}
use Rattle.requests.proofs.run.answer.Goals as goal

pub returns-in_ok-group-in-About-clause-text : goal.returns-in_ok-group-in-About-clause-text
returns-in_ok-group-in-About-clause-text g c =
    let asks : IsRequest (result_map asked_of c.args.read) (about c.in-About.format (question_of c.in-About.question)) = search rules in
    answered (result_map asked_of c.args.read) c.in-About.format (question_of c.in-About.question) asks (g.S.Source.left c.args.source.now) c.in_ok-group-in-About.group c.in_ok-group-in-About.ensures.group c.respond.result c.respond.ensures.text

pub returns-in_ok-group-in-About-clause-obstacle : goal.returns-in_ok-group-in-About-clause-obstacle
returns-in_ok-group-in-About-clause-obstacle g c =
    let asks : IsRequest (result_map asked_of c.args.read) (about c.in-About.format (question_of c.in-About.question)) = search rules in
    kept_from_answer (result_map asked_of c.args.read) c.in-About.format (question_of c.in-About.question) asks (g.S.Source.left c.args.source.now) c.in_ok-group-in-About.group c.in_ok-group-in-About.ensures.group c.respond.result
    _ _ c.in_ok-group-in-About.ensures.unfailed c.respond.ensures.obstacle

pub returns-in_err-group-in-About-clause-untouched : goal.returns-in_err-group-in-About-clause-untouched
returns-in_err-group-in-About-clause-untouched g c = λ none.
    let asks : IsRequest (result_map asked_of c.args.read) (about c.in-About.format (question_of c.in-About.question)) = search rules in
    absurd (none (c.in-About.format, question_of c.in-About.question, asks))

pub returns-in_ok-group-in-About-clause-untouched : goal.returns-in_ok-group-in-About-clause-untouched
returns-in_ok-group-in-About-clause-untouched g c = λ none.
    let asks : IsRequest (result_map asked_of c.args.read) (about c.in-About.format (question_of c.in-About.question)) = search rules in
    absurd (none (c.in-About.format, question_of c.in-About.question, asks))

-- ---- of the lines of a plane group

abbrev of_pairs : Format
of_pairs = GroupText Pairs

pub returns-in_ok-group-in-Lines-clause-text : goal.returns-in_ok-group-in-Lines-clause-text
returns-in_ok-group-in-Lines-clause-text g c =
    let question = all_lines (row_of c.in-Lines.plane) in
    let asks : IsRequest (result_map asked_of c.args.read) (about of_pairs question) = search rules in
    answered (result_map asked_of c.args.read) of_pairs question asks (g.S.Source.left c.args.source.now) c.in_ok-group-in-Lines.group c.in_ok-group-in-Lines.ensures.group c.all_lines_text.result c.all_lines_text.ensures.text

pub returns-in_ok-group-in-Lines-clause-obstacle : goal.returns-in_ok-group-in-Lines-clause-obstacle
returns-in_ok-group-in-Lines-clause-obstacle g c =
    let question = all_lines (row_of c.in-Lines.plane) in
    let asks : IsRequest (result_map asked_of c.args.read) (about of_pairs question) = search rules in
    kept_from_answer (result_map asked_of c.args.read) of_pairs question asks (g.S.Source.left c.args.source.now) c.in_ok-group-in-Lines.group c.in_ok-group-in-Lines.ensures.group c.all_lines_text.result
    _ _ c.in_ok-group-in-Lines.ensures.unfailed c.all_lines_text.ensures.obstacle

pub returns-in_err-group-in-Lines-clause-untouched : goal.returns-in_err-group-in-Lines-clause-untouched
returns-in_err-group-in-Lines-clause-untouched g c = λ none.
    let question = all_lines (row_of c.in-Lines.plane) in
    let asks : IsRequest (result_map asked_of c.args.read) (about of_pairs question) = search rules in
    absurd (none (of_pairs, question, asks))

pub returns-in_ok-group-in-Lines-clause-untouched : goal.returns-in_ok-group-in-Lines-clause-untouched
returns-in_ok-group-in-Lines-clause-untouched g c = λ none.
    let question = all_lines (row_of c.in-Lines.plane) in
    let asks : IsRequest (result_map asked_of c.args.read) (about of_pairs question) = search rules in
    absurd (none (of_pairs, question, asks))
