use Rattle.std.proofs.lemmas.Result.{IfOk-weaker}
use Rattle.closure.specs.Groups.{group_listing}
use Rattle.closure.proofs.OwnLattice.{own_listing}
use Rattle.report.specs.ReportView.{IsReportOf}
use Rattle.sample.specs.SampleGroups.{shear_number, sheared_group, sample_frame, type_number, upright}
use Rattle.sample.proofs.SampleReports.{few_of_report, no_fault, of_number, report_is, shear_within}
use Rattle.sample.proofs.reports.sample_report.Goals as goal

pub unreachable-requires : goal.unreachable-requires
unreachable-requires c =
    let i = c.args.i in
    let t = c.layer_type-layer_type.result.now in
    let of = of_number i c.shear_number.result c.shear_number.ensures t c.in_ok-group.group c.in_ok-group.ensures in
    let fault = c.in_default.field-0 in
    no_fault (type_number i) t c.layer_type-layer_type.ensures (shear_number i) (shear_within i) fault _ _ c.upright.ensures c.frame_vectors.ensures
    ((c.make.ensures.refused (sheared_group (shear_number i) t) of fault).0 c.in_default.is)

pub make-requires-2 : goal.make-requires-2
make-requires-2 c =
    let group = c.in_ok-group.group in
    (c.upright.result, c.frame_vectors.result, c.in-Ok.ensures.made (group_listing group) (own_listing group))

pub returns-clause-is : goal.returns-clause-is
returns-clause-is c =
    let i = c.args.i in
    let t = c.layer_type-layer_type.result.now in
    let g = sheared_group (shear_number i) t in
    let of = of_number i c.shear_number.result c.shear_number.ensures t c.in_ok-group.group c.in_ok-group.ensures in
    IfOk-weaker c.make-2.result (IsReportOf g c.in-Ok.frame) _
    (λ report is. record {
      layer_type = t;
      is_type = c.layer_type-layer_type.ensures;
      is = report_is g c.upright.result c.frame_vectors.result c.in-Ok.frame upright (sample_frame t.centred) (c.in-Ok.ensures.made g of) c.upright.ensures c.frame_vectors.ensures report is;
    })
    (c.make-2.ensures g of)

pub returns-clause-few : goal.returns-clause-few
returns-clause-few c = IfOk-weaker c.make-2.result _ _ (λ report is. few_of_report _ _ report is.is) (returns-clause-is c)
