use Rattle.std.proofs.Common.{◌∙◌, ap, length, map, subst, sym}
use Rattle.std.specs.Prelude.{All, option_map}
use Rattle.std.specs.List.{AllZip}
use Rattle.std.proofs.lemmas.Result.{IfOk-weaker}
use Rattle.std.proofs.lemmas.Slice.Zip.{AllZip-long}
use Rattle.symmetry.specs.Frames.{IsFrame}
use Rattle.fractions.specs.FractionOf.{fraction_of}
use Rattle.motions.specs.Views.{motion_of, row_of}
use Rattle.closure.specs.Groups.{group_listing}
use Rattle.closure.proofs.OwnLattice.{own_listing}
use Rattle.plane_lattice.specs.FrameView.{basis_of_frame}
use Rattle.plane_lattice.specs.declared.frame.Frame.{Frame}
use Rattle.scanning.specs.HeightView.{special_of}
use Rattle.orbits.proofs.SpecialHeights.{length-heights}
use Rattle.recognition.specs.Search.{change_of}
use Rattle.plane_lattice.specs.SmallHeights.{IsSmallHeight}
use Rattle.report.specs.FoundChanges.{IsTypeAt}
use Rattle.report.specs.ReportView.{IsReportOf}
use Rattle.report.specs.SectionTypes.{IsGeneralList, IsSpecialList}
use Rattle.report.proofs.Made.{frame_made, report_of_each, report_of_scan}
use Rattle.report.proofs.ScanSections.{general_list, special_lists}
use Rattle.report.proofs.SmallSizes.{small_specials}
use Rattle.report.proofs.make.recognised.Goals as goal

-- the scan keeps the frame
pub height_orbits-requires : goal.height_orbits-requires
height_orbits-requires g c =
    let h = group_listing c.args.group.now in
    let made = c.in_ok-scan.ensures h (own_listing c.args.group.now) in
    subst (λ (f : Frame). IsFrame h (row_of f.plane) (basis_of_frame f)) (sym made.frame_is) (frame_made c.args.group.now c.args.frame.now c.requires.made)

-- its lists are those of the sections
pub general_type-requires-clause-ops : goal.general_type-requires-clause-ops
general_type-requires-clause-ops g c =
    let frame = c.args.frame.now in
    let h = group_listing c.args.group.now in
    subst (λ ops. IsGeneralList h (row_of frame.plane) (basis_of_frame frame) (map motion_of ops)) (sym c.deref.ensures.value)
    (general_list h (row_of frame.plane) (basis_of_frame frame) c.in_ok-scan.scan (c.in_ok-scan.ensures h (own_listing c.args.group.now)).is)

pub special_types-requires-clause-small : goal.special_types-requires-clause-small
special_types-requires-clause-small g c =
    subst (All (λ h. IsSmallHeight (fraction_of h.s))) (sym c.deref-2.ensures.value) (small_specials c.in_ok-scan.scan)

pub special_types-requires-clause-special : goal.special_types-requires-clause-special
special_types-requires-clause-special g c =
    let frame = c.args.frame.now in
    let h = group_listing c.args.group.now in
    subst (All (λ s. IsSpecialList h (row_of frame.plane) (basis_of_frame frame) (special_of s))) (sym c.deref-2.ensures.value)
    (special_lists h (row_of frame.plane) (basis_of_frame frame) c.in_ok-scan.scan (c.in_ok-scan.ensures h (own_listing c.args.group.now)).is)

-- there is a number for each height, and a type
pub show-requires-clause-orbits : goal.show-requires-clause-orbits
show-requires-clause-orbits g c =
    let numbers = c.in_ok-orbits.ensures.numbers (group_listing c.args.group.now) (own_listing c.args.group.now) in
    numbers.count ∙ length-heights c.in_ok-scan.scan.special.items

pub show-requires-clause-types : goal.show-requires-clause-types
show-requires-clause-types g c = AllZip-long _ _ _ c.in_ok-types.ensures ∙ ap length c.deref-2.ensures.value

pub returns : goal.returns
returns g c = λ listing of.
    let group = c.args.group.now in
    let frame = c.args.frame.now in
    let scan = c.in_ok-scan.scan in
    let orbits = c.in_ok-orbits.orbits in
    let are_orbits = c.in_ok-orbits.ensures in
    let own = own_listing group in
    let h = group_listing group in
    IfOk-weaker c.show.result _ (IsReportOf listing frame)
    (λ report shown. report_of_each group frame listing of report
    (report_of_scan group frame c.requires.made scan (c.in_ok-scan.ensures h own) orbits.of.items orbits.planes (are_orbits.numbers h own) (are_orbits.planes h own)
    c.in_ok-general.general c.in_ok-types.types.items c.in_ok-general.ensures
    (subst (λ hs. AllZip (λ s o. IsTypeAt h (row_of frame.plane) (basis_of_frame frame) (fraction_of s.s) (option_map change_of o)) hs c.in_ok-types.types.items)
    c.deref-2.ensures.value c.in_ok-types.ensures) report shown))
    c.show.ensures
