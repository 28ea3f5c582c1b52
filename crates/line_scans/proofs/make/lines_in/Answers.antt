-- The scan of the planes (h k 0) is ready for the sections, and what they make of it is the scan of the lines.
use Rattle.std.proofs.Common.{ℤ, pos, map, sym, subst, lit<}
use Rattle.std.specs.Prelude.{All, unsigned_abs}
use Rattle.motions.specs.Views.{motion_of, row_of}
use Rattle.motions.specs.declared.miller.TheConstants.{INDEX}
use Rattle.integers.proofs.Coded.{again_is}
use Rattle.closure.specs.Groups.{group_listing}
use Rattle.closure.proofs.OwnLattice.{own_listing}
use Rattle.plane_lattice.specs.FrameView.{basis_of_frame}
use Rattle.scanning.specs.declared.height.Height.{Height}
use Rattle.scanning.proofs.Shifts.{period_within}
use Rattle.line_scans.specs.LineOps.{AreLineMotions, IsStep}
use Rattle.line_scans.specs.LineOps.{IsSectionOf}
use Rattle.line_scans.specs.LineView.{IsLineHeightOf}
use Rattle.std.specs.List.{AllZip}
use Rattle.line_scans.proofs.MadeLines.{general_ready, motions_ready, steps_ready, told_is, told_so}
use Rattle.line_scans.proofs.SmallLines.{small_line_heights}
use Rattle.line_scans.proofs.make.lines_in.Goals as goal

pub make-requires : goal.make-requires
make-requires c = let group = c.args.group.now in (c.requires.frame (group_listing group) (own_listing group)).is_frame

pub line_section-requires : goal.line_section-requires
line_section-requires c =
    let group = c.args.group.now in
    let frame = c.args.frame.now in
    let g = group_listing group in
    let own = own_listing group in
    let made = c.in_ok-scan.ensures g own in
    subst (λ ops. AreLineMotions (row_of frame.plane) (basis_of_frame frame) (pos 0) (map motion_of ops)) (sym c.deref.ensures.value)
    (general_ready group frame c.requires.group c.requires.line g own (c.requires.frame g own) c.in_ok-scan.scan made.frame_is made.is)

pub line_heights-requires-clause-steps : goal.line_heights-requires-clause-steps
line_heights-requires-clause-steps c =
    let group = c.args.group.now in
    let frame = c.args.frame.now in
    let g = group_listing group in
    let own = own_listing group in
    let made = c.in_ok-scan.ensures g own in
    subst (All (λ (h : Height). (k : ℤ) × IsStep frame.period.0 h.level k)) (sym c.deref-2.ensures.value)
    (steps_ready group frame c.requires.group c.requires.line g own (c.requires.frame g own) c.in_ok-scan.scan made.frame_is made.is)

pub line_heights-requires-clause-motions : goal.line_heights-requires-clause-motions
line_heights-requires-clause-motions c =
    let group = c.args.group.now in
    let frame = c.args.frame.now in
    let g = group_listing group in
    let own = own_listing group in
    let made = c.in_ok-scan.ensures g own in
    subst
    (All (λ (h : Height). (k : ℤ) → IsStep frame.period.0 h.level k → AreLineMotions (row_of frame.plane) (basis_of_frame frame) k (map motion_of h.ops.items)))
    (sym c.deref-2.ensures.value)
    (motions_ready group frame c.requires.group c.requires.line g own (c.requires.frame g own) c.in_ok-scan.scan made.frame_is made.is)

pub returns-clause-is : goal.returns-clause-is
returns-clause-is c g of =
    let group = c.args.group.now in
    let frame = c.args.frame.now in
    let made = c.in_ok-scan.ensures g of in
    let general = subst (λ ops. IsSectionOf (row_of frame.plane) (basis_of_frame frame) (pos 0) (map motion_of ops) c.in_ok-general.general) c.deref.ensures.value c.in_ok-general.ensures in
    let heights = subst (λ hs. AllZip (IsLineHeightOf (row_of frame.plane) (basis_of_frame frame) frame.period.0) hs c.in_ok-heights.heights.items) c.deref-2.ensures.value c.in_ok-heights.ensures in
    let h = again_is frame.plane.h (unsigned_abs INDEX) frame.plane.in_range.x (lit< tt) in
    let k = again_is frame.plane.k (unsigned_abs INDEX) frame.plane.in_range.y (lit< tt) in
    told_so g frame c.in_plane.result h k c.in_plane.ensures.first c.in_plane.ensures.second
    (told_is group frame c.requires.group c.requires.line g of (c.requires.frame g of) c.in_ok-scan.scan made.frame_is made.is c.in_ok-general.general general
    c.in_ok-heights.heights.items heights)

pub returns-clause-small : goal.returns-clause-small
returns-clause-small c =
    let frame = c.args.frame.now in
    record {
      a = record { x = frame.a_in_range.x; y = frame.a_in_range.y };
      tau = record { x = frame.tau_in_range.x; y = frame.tau_in_range.y };
      period = record { within = period_within frame; above = frame.above };
      heights = small_line_heights (row_of frame.plane) (basis_of_frame frame) frame.period.0 frame.above (period_within frame) _ c.in_ok-heights.heights.items c.in_ok-heights.ensures;
    }
