-- The sign is told by the number by which a is multiplied.
use Rattle.std.proofs.Common.{rules, ◌∙◌, FitsSigned, w64, inl, inr}
use Rattle.motions.specs.BasisView.{basis_of}
use Rattle.motions.specs.Views.{motion_of, row_of}
use Rattle.plane_lattice.specs.FrameView.{basis_of_frame}
use Rattle.line_scans.proofs.FoundOps.{IsToldSign, found_op}
use Rattle.line_scans.proofs.viewpoint.Viewpoint.line_op.Goals as goal
use Rattle.line_scans.proofs.viewpoint.Viewpoint.line_op.Goals.{then-turned-eq1, else-turned-eq1}

pub returns : goal.returns
returns c =
    let frame = c.args.self.now.frame in
    let turned = c.multiple_of_a-turned.result in
    let fits : FitsSigned w64 turned = search rules in
    let fits' : FitsSigned w64 c.multiple_of_a.result = search rules in
    let told : IsToldSign turned c.if-turned-eq1.result =
    elim c.if-turned-eq1.branch [
      | then-turned-eq1 w ↦ inl (w.if-turned-eq1.true, w.result-is)
      | else-turned-eq1 w ↦ inr (w.if-turned-eq1.false, w.result-is)
    ] in
    found_op (row_of frame.plane) (basis_of c.dual-dual.result.basis) (basis_of_frame frame) c.dual-dual.ensures frame.right_handed c.args.self.now.step
    (motion_of c.args.m.now) c.requires.line turned c.multiple_of_a.result fits fits' c.in-Some.e c.if-turned-eq1.result
    (c.multiple_of_a-turned.ensures ∙ c.image.ensures.is) told ((c.side.ensures.sign c.in-Some.e).0 c.in-Some.is) (c.multiple_of_a.ensures ∙ c.drift.ensures.is)
