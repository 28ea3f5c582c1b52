use Rattle.std.proofs.Common.{[], ◌<◌, length, map, get_or, sym, subst, arith}
use Rattle.std.specs.Prelude.{All}
use Rattle.std.specs.List.{AllZip}
use Rattle.std.proofs.lemmas.List.{get_or-map, length-map, map_more, take_all}
use Rattle.std.proofs.lemmas.List.Elements.{All-push}
use Rattle.integers.proofs.Coded.{again}
use Rattle.symmetry.specs.Motions.{identity}
use Rattle.symmetry.specs.Vectors.{dot}
use Rattle.quotient.proofs.Zips.{zip_more}
use Rattle.motions.specs.Views.{motion_of, parts, row_of}
use Rattle.closure.specs.Groups.{group_listing}
use Rattle.plane_lattice.specs.FrameView.{basis_of_frame}
use Rattle.plane_lattice.specs.Sections.{height_in_steps}
use Rattle.recognition.specs.Sections.{IsSmallMotion}
use Rattle.report.specs.SectionTypes.{IsOnPlane, IsSeen}
use Rattle.report.proofs.StepNumbers.{step_again}
use Rattle.report.proofs.recognised.seen.Goals as goal

pub seen_motion-requires-clause-motion : goal.seen_motion-requires-clause-motion
seen_motion-requires-clause-motion c =
    let frame = c.args.frame.now in
    let r = row_of frame.plane in
    let ops = c.args.ops.now in
    let within : c.loop-m.m-index < length ops = omega arith in
    subst (λ k. IsOnPlane (group_listing c.args.group.now) r (basis_of_frame frame) (height_in_steps (dot r (parts frame.tau)) k) (motion_of (get_or ops c.loop-m.m-index (record { w = []; t = [] }))))
    (sym (step_again c.args.step c.requires.from c.requires.below))
    (subst (IsOnPlane (group_listing c.args.group.now) r (basis_of_frame frame) (height_in_steps (dot r (parts frame.tau)) c.args.step))
    (get_or-map motion_of ops c.loop-m.m-index (record { w = []; t = [] }) identity within)
    (c.requires.ops c.loop-m.m-index identity (omega (arith, length-map ops motion_of))))

pub returns-clause-seen : goal.returns-clause-seen
returns-clause-seen c =
    let frame = c.args.frame.now in
    subst (λ k. AllZip (IsSeen (group_listing c.args.group.now) (row_of frame.plane) (basis_of_frame frame) k) (map motion_of c.args.ops.now) c.loop-m.section.items)
    (step_again c.args.step c.requires.from c.requires.below)
    (subst (λ ops. AllZip (IsSeen (group_listing c.args.group.now) (row_of frame.plane) (basis_of_frame frame) (again c.args.step)) (map motion_of ops) c.loop-m.section.items)
    (take_all c.loop-m.m-index c.args.ops.now (omega arith)) c.loop-m.invariant.0)

pub loop-m-preserved : goal.loop-m-preserved
loop-m-preserved c = (
  zip_more _ _ _ _ _ _ _ (map_more motion_of c.args.ops.now c.loop-m.m-index _ (omega arith)) c.in_ok-push.ensures.items c.loop-m.invariant.0 c.seen_motion.ensures.seen,
  subst (All IsSmallMotion) (sym c.in_ok-push.ensures.items) (All-push IsSmallMotion _ _ c.loop-m.invariant.1 c.seen_motion.ensures.small),
)
