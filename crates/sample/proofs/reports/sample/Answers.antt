use Rattle.std.proofs.Common.{◌+◌, arith, subst, sym, ◌∙◌, lit≤}
use Rattle.report.specs.ReportView.{report_of}
use Rattle.sample.specs.Counted.{counts_of, counts_plus}
use Rattle.sample.specs.Samples.{IsSample}
use Rattle.sample.specs.Samples.IsSample.{none, further}
use Rattle.sample.proofs.reports.sample.Goals as goal

pub loop-i-init : goal.loop-i-init
loop-i-init c = rw c.none-counts.ensures (record {
  is = none;
  within = record { groups = lit≤ tt; special = lit≤ tt; sections = lit≤ tt; own = lit≤ tt; unrecognised = lit≤ tt };
})

pub loop-i-preserved : goal.loop-i-preserved
loop-i-preserved c =
    let counts = c.loop-i.counts in
    let report = report_of c.in_ok-report.report in
    let counted = c.of_report.ensures.counts ∙ (λ k. counts_of (c.type_number.ensures k) report) in
    let before = c.loop-i.invariant.within in
    let one = c.of_report.ensures.within in
    let sum = c.plus-counts.ensures in
    record {
      is = subst (IsSample (c.loop-i.i + 1)) (sym (sum ∙ (λ k. counts_plus counts (counted k)))) (further c.loop-i.i counts report c.loop-i.invariant.is c.in_ok-report.ensures.is);
      within = rw sum (record {
        groups = omega (arith, before.groups, one.groups);
        special = omega (arith, before.special, one.special);
        sections = omega (arith, before.sections, one.sections);
        own = omega (arith, before.own, one.own);
        unrecognised = omega (arith, before.unrecognised, one.unrecognised);
      });
    }
