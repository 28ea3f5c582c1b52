use Rattle.std.proofs.Common.{ℤ, map, sym, subst}
use Rattle.std.specs.Prelude.{All}
use Rattle.std.specs.List.{AllZip}
use Rattle.fractions.specs.FractionOf.{fraction_of}
use Rattle.integers.proofs.Coded.{again}
use Rattle.symmetry.specs.Vectors.{dot}
use Rattle.motions.specs.Views.{motion_of, parts, row_of}
use Rattle.closure.specs.Groups.{group_listing}
use Rattle.plane_lattice.specs.FrameView.{basis_of_frame}
use Rattle.plane_lattice.specs.Sections.{height_in_steps}
use Rattle.scanning.proofs.Shifts.{period_within}
use Rattle.recognition.specs.Sections.{IsSection}
use Rattle.scanning.specs.HeightView.{special_of}
use Rattle.report.specs.FoundChanges.{IsTypeAt}
use Rattle.report.specs.SectionTypes.{IsAtStep, IsOnPlane, IsSeen}
use Rattle.report.proofs.SeenLists.{found_in, some_step, special_found, special_on_plane, special_section}
use Rattle.report.proofs.StepNumbers.{handed_step}
use Rattle.report.proofs.recognised.special_type.Goals as goal

pub step_of-step-requires-clause-period : goal.step_of-step-requires-clause-period
step_of-step-requires-clause-period g c = period_within c.args.frame.now

pub step_of-step-requires-clause-stands : goal.step_of-step-requires-clause-stands
step_of-step-requires-clause-stands g c =
    subst (λ d. (k : ℤ) × IsAtStep d (fraction_of c.args.height.now.s) k) c.args.frame.now.tau_gives
    (some_step c.args.group.now c.args.frame.now c.requires.made (special_of c.args.height.now) c.requires.height)

pub seen-requires-clause-ops : goal.seen-requires-clause-ops
seen-requires-clause-ops g c =
    let frame = c.args.frame.now in
    let r = row_of frame.plane in
    let h = special_of c.args.height.now in
    let k : ℤ = again c.step_of-step.result in
    let at = handed_step h.height (dot r (parts frame.tau)) frame.period.0 c.step_of-step.result frame.tau_gives c.step_of-step.ensures in
    subst (λ ops. All (IsOnPlane (group_listing c.args.group.now) r (basis_of_frame frame) (height_in_steps (dot r (parts frame.tau)) k)) (map motion_of ops))
    (sym c.deref.ensures.value) (special_on_plane c.args.group.now frame c.requires.made h c.requires.height k at)

pub layer_type-requires : goal.layer_type-requires
layer_type-requires g c =
    let frame = c.args.frame.now in
    let r = row_of frame.plane in
    let h = special_of c.args.height.now in
    let k : ℤ = again c.step_of-step.result in
    let at = handed_step h.height (dot r (parts frame.tau)) frame.period.0 c.step_of-step.result frame.tau_gives c.step_of-step.ensures in
    let seen = subst (λ ops. AllZip (IsSeen (group_listing c.args.group.now) r (basis_of_frame frame) k) (map motion_of ops) c.in_ok-section.section.items)
    c.deref.ensures.value c.in_ok-section.ensures.seen in
    subst IsSection (sym c.deref-2.ensures.value)
    (special_section c.args.group.now frame c.requires.made h c.requires.height k at c.in_ok-section.section.items seen c.in_ok-section.ensures.small)

pub returns : goal.returns
returns g c =
    let frame = c.args.frame.now in
    let r = row_of frame.plane in
    let h = special_of c.args.height.now in
    let k : ℤ = again c.step_of-step.result in
    let at = handed_step h.height (dot r (parts frame.tau)) frame.period.0 c.step_of-step.result frame.tau_gives c.step_of-step.ensures in
    let seen = subst (λ ops. AllZip (IsSeen (group_listing c.args.group.now) r (basis_of_frame frame) k) (map motion_of ops) c.in_ok-section.section.items)
    c.deref.ensures.value c.in_ok-section.ensures.seen in
    let there = subst (AllZip (IsSeen (group_listing c.args.group.now) r (basis_of_frame frame) k) h.ops) (sym c.deref-2.ensures.value) seen in
    found_in c.deref-2.result.now c.layer_type.result (IsTypeAt (group_listing c.args.group.now) r (basis_of_frame frame) h.height)
    (special_found c.args.group.now frame c.requires.made h c.requires.height k at c.deref-2.result.now there) c.layer_type.ensures.first c.layer_type.ensures.none
