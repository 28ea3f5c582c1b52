use Rattle.std.proofs.Common.{refl}
use Rattle.std.proofs.lemmas.Result.{err_from_is_err_and}
use Rattle.closure.specs.Groups.{group_listing}
use Rattle.closure.proofs.OwnLattice.{own_listing}
use Rattle.report.specs.ReportView.{report_of}
use Rattle.requests.proofs.GroupAnswers.{report_answer}
use Rattle.requests.proofs.layers.heights_text.Goals as goal

pub make-requires-2 : goal.make-requires-2
make-requires-2 c = (c.args.plane, c.args.basis, c.in_ok-frame.ensures.made (group_listing c.args.group.now) (own_listing c.args.group.now))

pub returns-in_err-frame-clause-obstacle : goal.returns-in_err-frame-clause-obstacle
returns-in_err-frame-clause-obstacle c =
    let p = err_from_is_err_and c.from_residual.result c.from_residual.ensures.1 in
    rw (p.1, p.2) (λ g of. (c.in_err-frame.field-0.0, (c.in_err-frame.ensures.refused g of c.in_err-frame.field-0.0).0 refl, refl))

pub returns-clause-text : goal.returns-clause-text
returns-clause-text c = λ g of. report_answer g c.args.plane c.args.basis c.in_ok-frame.frame (c.in_ok-frame.ensures.made g of) c.args.group.now of
    c.args.form (report_of c.in_ok-report.report) _ (c.in_ok-report.ensures g of).is c.in_ok-written.ensures
