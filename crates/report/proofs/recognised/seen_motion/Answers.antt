use Rattle.std.proofs.Common.{sym, subst}
use Rattle.symmetry.specs.Planes.{KeepsPlane}
use Rattle.symmetry.specs.Vectors.{dot}
use Rattle.motions.specs.Views.{motion_of, parts, row_of}
use Rattle.closure.specs.Groups.{group_listing}
use Rattle.plane_lattice.specs.FrameView.{basis_of_frame}
use Rattle.plane_lattice.specs.Sections.{height_in_steps}
use Rattle.report.specs.SectionTypes.{IsSeen}
use Rattle.report.proofs.StepNumbers.{step_again}
use Rattle.report.proofs.recognised.seen_motion.Goals as goal

pub unreachable-requires : goal.unreachable-requires
unreachable-requires c =
    let frame = c.args.frame.now in
    c.in_default.ensures.exact
    (subst (λ k. KeepsPlane (row_of frame.plane) (height_in_steps (dot (row_of frame.plane) (parts frame.tau)) k) (motion_of c.args.m.now))
    (sym (step_again c.args.step c.requires.from c.requires.below)) c.requires.motion.keeps)

pub returns-clause-seen : goal.returns-clause-seen
returns-clause-seen c =
    let frame = c.args.frame.now in
    subst (λ k. IsSeen (group_listing c.args.group.now) (row_of frame.plane) (basis_of_frame frame) k (motion_of c.args.m.now) c.in-Some.n)
    (step_again c.args.step c.requires.from c.requires.below) c.in-Some.ensures.seen
