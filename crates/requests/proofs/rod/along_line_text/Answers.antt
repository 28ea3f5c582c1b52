use Rattle.std.proofs.Common.{refl}
use Rattle.std.proofs.lemmas.Result.{err_from_is_err_and}
use Rattle.motions.specs.Views.{parts}
use Rattle.closure.specs.Groups.{group_listing}
use Rattle.penetration.specs.DirectionView.{direction_of}
use Rattle.penetration.proofs.AlikeRods.{frame_fault_from}
use Rattle.report.specs.RodReportView.{rod_report_of}
use Rattle.report.proofs.RodSays.{rod_says}
use Rattle.requests.proofs.rod.along_line_text.Goals as goal

pub returns-in_err-frame-clause-obstacle : goal.returns-in_err-frame-clause-obstacle
returns-in_err-frame-clause-obstacle c =
    let p = err_from_is_err_and c.from_residual.result c.from_residual.ensures.1 in
    let fault = c.in_err-frame.field-0.0 in
    rw (p.1, p.2) (λ g of. (
      fault,
      frame_fault_from g (group_listing c.args.group.now) of.alike (direction_of c.args.direction) (parts c.args.basis.a) (parts c.args.basis.b) fault
          ((c.in_err-frame.ensures.faults fault).0 refl),
      refl,
    ))

pub returns-clause-text : goal.returns-clause-text
returns-clause-text c = λ g of. record {
  report = rod_report_of c.in_ok-rod.rod;
  is_report = rod_says g c.args.group.now c.args.direction c.args.basis c.in_ok-frame.frame c.args.point c.in_ok-rod.rod of
      c.in_ok-frame.ensures.ok c.in_ok-rod.ensures;
  is_text = c.in_ok-rod_text.ensures;
}
