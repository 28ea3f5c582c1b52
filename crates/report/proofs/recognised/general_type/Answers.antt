use Rattle.std.proofs.Common.{pos, map, sym, subst}
use Rattle.std.specs.List.{AllZip}
use Rattle.motions.specs.Views.{motion_of, row_of}
use Rattle.closure.specs.Groups.{group_listing}
use Rattle.plane_lattice.specs.FrameView.{basis_of_frame}
use Rattle.recognition.specs.Sections.{IsSection}
use Rattle.report.specs.FoundChanges.{IsGeneralType}
use Rattle.report.specs.SectionTypes.{IsSeen}
use Rattle.report.proofs.SeenLists.{found_in, general_found, general_on_plane, general_section}
use Rattle.report.proofs.recognised.general_type.Goals as goal

pub seen-requires-clause-ops : goal.seen-requires-clause-ops
seen-requires-clause-ops g c = general_on_plane c.args.group.now c.args.frame.now c.requires.made (map motion_of c.args.ops.now) c.requires.ops (pos 0)

pub layer_type-requires : goal.layer_type-requires
layer_type-requires g c =
    subst IsSection (sym c.deref.ensures.value)
    (general_section c.args.group.now c.args.frame.now c.requires.made (map motion_of c.args.ops.now) c.requires.ops c.in_ok-section.section.items
    c.in_ok-section.ensures.seen c.in_ok-section.ensures.small)

pub returns : goal.returns
returns g c =
    let frame = c.args.frame.now in
    let ops = map motion_of c.args.ops.now in
    let seen = subst (AllZip (IsSeen (group_listing c.args.group.now) (row_of frame.plane) (basis_of_frame frame) (pos 0)) ops) (sym c.deref.ensures.value)
    c.in_ok-section.ensures.seen in
    found_in c.deref.result.now c.layer_type.result (IsGeneralType (group_listing c.args.group.now) (row_of frame.plane) (basis_of_frame frame))
    (general_found c.args.group.now frame c.requires.made ops c.requires.ops c.deref.result.now seen) c.layer_type.ensures.first c.layer_type.ensures.none
