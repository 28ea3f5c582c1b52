-- The one vector of the plane with this height and this coordinate is not in the lattice.
use Rattle.std.proofs.Common.{◌*◌, subst, sym, lit<}
use Rattle.std.specs.Prelude.{unsigned_abs}
use Rattle.fractions.specs.declared.part.TheConstants.{UNIT}
use Rattle.motions.specs.declared.miller.TheConstants.{INDEX}
use Rattle.symmetry.specs.Groups.{IsInLattice}
use Rattle.integers.proofs.Coded.{again, again_is}
use Rattle.motions.specs.Views.{parts, row_of}
use Rattle.closure.specs.Groups.{group_listing}
use Rattle.line_frames.specs.Searches.{IsPointAt}
use Rattle.line_frames.proofs.Points.{one_point}
use Rattle.line_frames.proofs.members.member_with.Goals as goal

pub returns-else-has : goal.returns-else-has
returns-else-has c v at with_t =
    let r = row_of c.args.plane.now in
    let t = again_is c.args.t (unsigned_abs UNIT * unsigned_abs INDEX) c.requires.t (lit< tt) in
    let d = again_is c.args.d (unsigned_abs UNIT) c.requires.d (lit< tt) in
    let point : IsPointAt r c.args.t c.args.d v = record { flat = at.flat; gives = at.gives; at = with_t } in
    let passed : IsPointAt r (again c.args.t) (again c.args.d) v =
    subst (λ x. IsPointAt r x (again c.args.d) v) (sym t) (subst (λ x. IsPointAt r c.args.t x v) (sym d) point) in
    let same = one_point r c.args.plane.now.coprime c.requires.line (again c.args.t) (again c.args.d) v (parts c.in_ok-v.v) passed c.in_ok-v.ensures in
    absurd (cc (c.if-has.false, c.has.ensures.1 (subst (IsInLattice (group_listing c.args.group.now)) same at.inside)))
