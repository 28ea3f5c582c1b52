-- A reduced frame is a frame, so that it can only be skewed.
use Rattle.std.proofs.Common.{sym, ap, subst, ◌∙◌}
use Rattle.std.specs.Prelude.{Err}
use Rattle.symmetry.specs.Frames.{IsFrame, IsSkewed}
use Rattle.motions.specs.Views.{row_of}
use Rattle.motions.specs.declared.basis.FrameFault.TheVariants.{NotFrame, Skewed}
use Rattle.closure.specs.Groups.{group_listing}
use Rattle.closure.proofs.OwnLattice.{own_listing}
use Rattle.reduction.specs.BasisView.{vectors_of}
use Rattle.reduction.specs.Reduced.{IsReducedFrame}
use Rattle.reduction.proofs.reduced.reduced_frame.Goals as goal

pub unreachable-requires : goal.unreachable-requires
unreachable-requires c =
    let group = c.args.group.now in
    let g = group_listing group in
    let own = own_listing group in
    (c.make.ensures.refused g own NotFrame).0 (c.in-Err-NotFrame.is ∙ ap Err c.in-Err-NotFrame.field-0-is)
    (subst (IsFrame g (row_of c.args.plane)) (sym c.in-Some.ensures) (c.reduced_basis.ensures g own).is_frame)

pub returns-in-Ok-clause-made : goal.returns-in-Ok-clause-made
returns-in-Ok-clause-made c g of =
    let basis = c.in-Some.basis in
    record {
      basis = basis;
      frame_of = c.in-Ok.ensures.made g of;
      reduced = subst (IsReducedFrame g (row_of c.args.plane)) (sym c.in-Some.ensures) (c.reduced_basis.ensures g of);
      in_range = record { a = basis.a_in_range; b = basis.b_in_range; tau = basis.tau_in_range };
    }

pub returns-in-Err-Skewed-clause-refused : goal.returns-in-Err-Skewed-clause-refused
returns-in-Err-Skewed-clause-refused c g of =
    let fault = (c.make.ensures.refused g of Skewed).0 (c.in-Err-Skewed.is ∙ ap Err c.in-Err-Skewed.field-0-is) in
    (vectors_of c.reduced_basis.result, c.reduced_basis.ensures g of, subst (IsSkewed g (row_of c.args.plane)) c.in-Some.ensures fault.1)
