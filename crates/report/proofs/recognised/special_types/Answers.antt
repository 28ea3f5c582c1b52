use Rattle.std.proofs.Common.{arith, subst}
use Rattle.std.specs.Prelude.{option_map}
use Rattle.std.proofs.lemmas.List.{take_more}
use Rattle.fractions.specs.FractionOf.{fraction_of}
use Rattle.quotient.proofs.Zips.{zip_more}
use Rattle.motions.specs.Views.{row_of}
use Rattle.closure.specs.Groups.{group_listing}
use Rattle.plane_lattice.specs.FrameView.{basis_of_frame}
use Rattle.recognition.specs.Search.{change_of}
use Rattle.report.specs.FoundChanges.{IsTypeAt}
use Rattle.report.proofs.recognised.special_types.Goals as goal

pub loop-height-preserved : goal.loop-height-preserved
loop-height-preserved g c =
    let frame = c.args.frame.now in
    zip_more (λ h found. IsTypeAt (group_listing c.args.group.now) (row_of frame.plane) (basis_of_frame frame) (fraction_of h.s) (option_map change_of found))
    _ _ _ _ _ _ (take_more c.args.special.now c.loop-height.height-index c.height-item.result (omega arith)) c.in_ok-push.ensures.items c.loop-height.invariant
    (subst (λ h. IsTypeAt (group_listing c.args.group.now) (row_of frame.plane) (basis_of_frame frame) (fraction_of h.s) (option_map change_of c.in_ok-special_type.field-0))
    c.height-item.is c.in_ok-special_type.ensures)
