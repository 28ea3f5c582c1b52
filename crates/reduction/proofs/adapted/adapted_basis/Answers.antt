-- Two vectors are replaced twice, as the code does it.
use Rattle.std.proofs.Common.{pos, ◌-ℤ◌, sym, ap, subst, ◌∙◌}
use Rattle.symmetry.specs.Sizes.{IsVectorWithin}
use Rattle.symmetry.specs.Vectors.{Vector}
use Rattle.motions.specs.Views.{row_of, vector_of}
use Rattle.closure.specs.Groups.{group_listing}
use Rattle.reduction.specs.Bounds.{largest_once, largest_twice}
use Rattle.reduction.specs.LatticeBases.{IsAdapted, combined}
use Rattle.reduction.proofs.Adapting.{adapted, once_small, twice_small, first_once}
use Rattle.reduction.proofs.CombinedPassed.{neg_small}
use Rattle.reduction.proofs.adapted.adapted_basis.Goals as goal

pub in_plane-b-requires-clause-u : goal.in_plane-b-requires-clause-u
in_plane-b-requires-clause-u c =
    subst (IsVectorWithin largest_once) (sym c.above_plane-above.ensures.is) (once_small c.bezout_of-m.result.x c.bezout_of-m.result.y (vector_of c.triangular_basis-first.result.a) (vector_of c.triangular_basis-first.result.b) c.bezout_of-m.ensures.small.x c.bezout_of-m.ensures.small.y c.triangular_basis-first.ensures.a c.triangular_basis-first.ensures.b)

pub above_plane-tau-requires-clause-u : goal.above_plane-tau-requires-clause-u
above_plane-tau-requires-clause-u c =
    subst (IsVectorWithin largest_once) (sym c.above_plane-above.ensures.is) (once_small c.bezout_of-m.result.x c.bezout_of-m.result.y (vector_of c.triangular_basis-first.result.a) (vector_of c.triangular_basis-first.result.b) c.bezout_of-m.ensures.small.x c.bezout_of-m.ensures.small.y c.triangular_basis-first.ensures.a c.triangular_basis-first.ensures.b)

pub returns-clause-adapted : goal.returns-clause-adapted
returns-clause-adapted c =
    let u : Vector = vector_of c.triangular_basis-first.result.a in
    let v : Vector = vector_of c.triangular_basis-first.result.b in
    let w : Vector = vector_of c.triangular_basis-first.result.tau in
    let m = c.bezout_of-m.result in
    let n = c.bezout_of-n.result in
    let above = c.above_plane-above.ensures.is in
    subst (IsAdapted (group_listing c.args.group.now) (row_of c.args.plane.now)) (λ i. record {
      a = sym c.in_plane-a.ensures.is i;
      b = sym (c.in_plane-b.ensures.is ∙ ap (λ (t : Vector). combined n.q t (pos 0 -ℤ n.p) w) above) i;
      tau = sym (c.above_plane-tau.ensures.is ∙ ap (λ (t : Vector). combined n.x t n.y w) above) i;
    })
    (adapted (group_listing c.args.group.now) (row_of c.args.plane.now) c.args.plane.now.coprime u v w c.triangular_basis-first.ensures.basis
    c.height_of.result c.height_of-2.result c.height_of-3.result c.height_of.ensures.is c.height_of-2.ensures.is c.height_of-3.ensures.is c.height_of.ensures.small c.height_of-2.ensures.small c.height_of-3.ensures.small
    m n c.bezout_of-m.ensures.small c.bezout_of-m.ensures.is c.bezout_of-n.ensures.is)

pub returns-clause-a : goal.returns-clause-a
returns-clause-a c =
    subst (IsVectorWithin largest_once) (sym c.in_plane-a.ensures.is)
    (once_small c.bezout_of-m.result.q (pos 0 -ℤ c.bezout_of-m.result.p) (vector_of c.triangular_basis-first.result.a) (vector_of c.triangular_basis-first.result.b) c.bezout_of-m.ensures.small.q (neg_small c.bezout_of-m.result.p c.bezout_of-m.ensures.small.p) c.triangular_basis-first.ensures.a c.triangular_basis-first.ensures.b)

pub returns-clause-b : goal.returns-clause-b
returns-clause-b c =
    let h : IsVectorWithin largest_once (vector_of c.above_plane-above.result) = subst (IsVectorWithin largest_once) (sym c.above_plane-above.ensures.is) (once_small c.bezout_of-m.result.x c.bezout_of-m.result.y (vector_of c.triangular_basis-first.result.a) (vector_of c.triangular_basis-first.result.b) c.bezout_of-m.ensures.small.x c.bezout_of-m.ensures.small.y c.triangular_basis-first.ensures.a c.triangular_basis-first.ensures.b) in
    subst (IsVectorWithin largest_twice) (sym c.in_plane-b.ensures.is)
    (twice_small c.bezout_of-n.result.q (pos 0 -ℤ c.bezout_of-n.result.p) (vector_of c.above_plane-above.result) (vector_of c.triangular_basis-first.result.tau) c.bezout_of-n.ensures.small.q (neg_small c.bezout_of-n.result.p c.bezout_of-n.ensures.small.p) h (first_once (vector_of c.triangular_basis-first.result.tau) c.triangular_basis-first.ensures.tau))

pub returns-clause-tau : goal.returns-clause-tau
returns-clause-tau c =
    let h : IsVectorWithin largest_once (vector_of c.above_plane-above.result) = subst (IsVectorWithin largest_once) (sym c.above_plane-above.ensures.is) (once_small c.bezout_of-m.result.x c.bezout_of-m.result.y (vector_of c.triangular_basis-first.result.a) (vector_of c.triangular_basis-first.result.b) c.bezout_of-m.ensures.small.x c.bezout_of-m.ensures.small.y c.triangular_basis-first.ensures.a c.triangular_basis-first.ensures.b) in
    subst (IsVectorWithin largest_twice) (sym c.above_plane-tau.ensures.is)
    (twice_small c.bezout_of-n.result.x c.bezout_of-n.result.y (vector_of c.above_plane-above.result) (vector_of c.triangular_basis-first.result.tau) c.bezout_of-n.ensures.small.x c.bezout_of-n.ensures.small.y h (first_once (vector_of c.triangular_basis-first.result.tau) c.triangular_basis-first.ensures.tau))
