-- The steps keep an adapted basis; what they leave is reduced by the form of the group.
use Rattle.std.proofs.Common.{ℤ, List, sym, subst, ◌∙◌}
use Rattle.symmetry.specs.Vectors.{Vector}
use Rattle.symmetry.proofs.Alike.{frame_from}
use Rattle.motions.specs.Views.{row_of, vector_of}
use Rattle.closure.specs.Groups.{group_listing}
use Rattle.reduction.specs.BasisView.{vectors_of}
use Rattle.reduction.specs.Forms.{form_matrix, IsShort}
use Rattle.reduction.specs.Reduced.{IsReduced}
use Rattle.reduction.proofs.Adapting.{once_twice}
use Rattle.reduction.proofs.Frames.{frame}
use Rattle.reduction.proofs.PairSizes.{begins_short, short}
use Rattle.reduction.proofs.reduced.reduced_basis.Goals as goal

pub with_short_pair-pair-requires-clause-pair : goal.with_short_pair-pair-requires-clause-pair
with_short_pair-pair-requires-clause-pair c =
    let g = form_matrix c.form_of-form.result in
    let f = vectors_of c.adapted_basis-adapted.result in
    let s = c.adapted_basis-adapted.ensures in
    record { a = begins_short g f.a c.form_of-form.ensures.form (once_twice f.a s.a); b = begins_short g f.b c.form_of-form.ensures.form s.b }

pub with_short_tau-short-requires-clause-tau : goal.with_short_tau-short-requires-clause-tau
with_short_tau-short-requires-clause-tau c =
    let g = form_matrix c.form_of-form.result in
    let tau = vector_of c.adapted_basis-adapted.result.tau in
    subst (λ (t : List ℤ). IsShort g (vector_of t)) (sym (c.with_shorter_first-ordered.ensures.tau ∙ c.with_short_pair-pair.ensures.tau))
    (short g tau (begins_short g tau c.form_of-form.ensures.form c.adapted_basis-adapted.ensures.tau))

pub returns : goal.returns
returns c g of =
    let h = group_listing c.args.group.now in
    let r = row_of c.args.plane.now in
    let f = vectors_of c.right_handed.result in
    let adapted = c.right_handed.ensures.adapted h r (c.with_forward_first-forward.ensures.adapted h r (c.with_short_tau-short.ensures.adapted h r
    (c.with_shorter_first-ordered.ensures.adapted h r (c.with_short_pair-pair.ensures.adapted h r c.adapted_basis-adapted.ensures.adapted)))) in
    let q = form_matrix c.form_of-form.result in
    let sum = c.form_of-form.ensures.value g of in
    record {
      is_frame = frame_from g h of.alike r f (frame h r f c.args.plane.now.coprime adapted c.right_handed.ensures.oriented);
      scanning = sum.scanning;
      are_scanning = sum.are_scanning;
      reduced = subst (λ (Q : Vector → Vector → ℤ). IsReduced Q f) (λ i u v. sum.is u v i) (c.right_handed.ensures.reduced q (c.with_forward_first-forward.ensures.reduced q c.with_short_tau-short.ensures.reduced));
    }
