-- The operations of the group that keep the orientation are its scanning operations.
use Rattle.std.proofs.Common.{List, subst}
use Rattle.symmetry.specs.Motions.{Motion}
use Rattle.symmetry.proofs.AlikeScans.{scanning_from}
use Rattle.motions.specs.Views.{row_of}
use Rattle.closure.specs.Groups.{group_listing}
use Rattle.plane_lattice.specs.Scanning.{scanning_ops}
use Rattle.plane_lattice.proofs.ScanningFacts.{scanning_ops_are}
use Rattle.reduction.specs.Forms.{form_matrix, IsSumOver}
use Rattle.reduction.proofs.FormSums.{sum_is_form}
use Rattle.reduction.proofs.form.form_of.Goals as goal

pub returns : goal.returns
returns c =
    let h = group_listing c.args.group.now in
    let r = row_of c.args.plane.now in
    let q = form_matrix c.form_over.result in
    let ms = scanning_ops r h.ops in
    let are = scanning_ops_are h r c.ops.ensures.apart in
    let is : IsSumOver ms q = subst (λ (ns : List Motion). IsSumOver (scanning_ops r ns) q) c.ops.ensures.ops c.form_over.ensures.is in
    record {
      form = sum_is_form h r c.ops.ensures.group ms are q c.form_over.ensures.small is;
      value = λ g of. record { scanning = ms; are_scanning = scanning_from g h of.alike r ms are; is = is };
    }
