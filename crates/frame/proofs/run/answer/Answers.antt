use Rattle.std.proofs.Common.{ap, sym, ◌∙◌}
use Rattle.motions.specs.Views.{row_of}
use Rattle.requests.specs.Questions.{result_map}
use Rattle.frame.specs.Words.{said_of}
use Rattle.frame.proofs.GroupLines.{answered, kept_from_answer}
use Rattle.frame.proofs.run.answer.Goals as goal

pub returns-clause-text : goal.returns-clause-text
returns-clause-text g c =
    let asks = sym c.read_words.ensures ∙ ap (result_map said_of) c.in_ok-plane.was in
    answered _ (row_of c.in_ok-plane.plane) c.in_ok-plane.format asks (g.S.Source.left c.args.source.now) c.in_ok-group.group c.in_ok-group.ensures.group
    c.reduced_line.result c.reduced_line.ensures.text

pub returns-clause-obstacle : goal.returns-clause-obstacle
returns-clause-obstacle g c =
    let asks = sym c.read_words.ensures ∙ ap (result_map said_of) c.in_ok-plane.was in
    kept_from_answer _ (row_of c.in_ok-plane.plane) c.in_ok-plane.format asks (g.S.Source.left c.args.source.now) c.in_ok-group.group c.in_ok-group.ensures.group
    c.reduced_line.result _ _ c.in_ok-group.ensures.unfailed c.reduced_line.ensures.obstacle
