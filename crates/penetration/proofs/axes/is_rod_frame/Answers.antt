use Rattle.std.proofs.Common.{refl, sym, subst, arith, pos, ◌<ℤ◌, lit<}
use Rattle.std.proofs.lemmas.Int.{ints}
use Rattle.integers.proofs.Wide.{not_above, wide_is}
use Rattle.motions.specs.BasisView.{basis_of}
use Rattle.closure.specs.Groups.{group_listing}
use Rattle.plane_lattice.specs.Bounds.{largest_scaled}
use Rattle.plane_lattice.specs.Coordinates.{volume}
use Rattle.penetration.specs.DirectionView.{direction_of}
use Rattle.penetration.proofs.AxisFacts.{from_tests, a_inside, b_inside}
use Rattle.penetration.proofs.axes.is_rod_frame.Goals as goal

pub returns-then-not-has_vectors : goal.returns-then-not-has_vectors
returns-then-not-has_vectors c =
    let g = group_listing c.args.group.now in
    let u = direction_of c.args.direction.now in
    let f = basis_of c.args.dual.now.basis in
    (λ t. absurd (cc), λ frame. c.if-not-has_vectors.ensures.1 (a_inside g u f c.requires frame, b_inside g u f c.requires frame, c.requires.inside))

pub returns-then-dual-le0 : goal.returns-then-dual-le0
returns-then-dual-le0 c = (
  λ t. absurd (cc),
  λ frame.
      let d = c.args.dual.now in
      let h : pos 0 <ℤ d.volume = subst (λ v. pos 0 <ℤ v) (sym d.volume_is) frame.right_handed in
      let e = wide_is largest_scaled d.volume (lit< tt) d.volume_small in
      absurd (omega (arith, ints, e, h, c.if-dual-le0.true)),
)

pub returns : goal.returns
returns c =
    let g = group_listing c.args.group.now in
    let u = direction_of c.args.direction.now in
    let f = basis_of c.args.dual.now.basis in
    let inside = c.if-not-has_vectors.ensures.0 refl in
    let d = c.args.dual.now in
    let positive : pos 0 <ℤ volume f =
    subst (λ v. pos 0 <ℤ v) d.volume_is (not_above largest_scaled d.volume (lit< tt) d.volume_small c.if-dual-le0.false) in (
      λ t. from_tests g u f c.requires inside.0 inside.1 positive (c.spans_lattice.ensures.0 t),
      λ frame. c.spans_lattice.ensures.1 frame.spans,
    )
