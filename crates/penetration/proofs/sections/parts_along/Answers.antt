-- The number of parts fits: the axis is not 0.
use Rattle.std.proofs.Common.{rules, ◌^◌, ◌∙◌, ap, FitsSigned, lit<}
use Rattle.std.specs.Int.{w128}
use Rattle.integers.proofs.Coded.{fits_within}
use Rattle.integers.proofs.Wide.{narrow_fits, narrow_is}
use Rattle.symmetry.specs.Vectors.{multiple}
use Rattle.motions.specs.BasisView.{basis_of}
use Rattle.motions.specs.Views.{parts}
use Rattle.penetration.proofs.AxisTests.{axis_times_within}
use Rattle.penetration.proofs.sections.parts_along.Goals as goal

pub overflow_cast-result : goal.overflow_cast-result
overflow_cast-result c =
    let t = c.in-Some.t in
    let f : FitsSigned w128 t = search rules in
    narrow_fits t f
    (fits_within t (2 ^ 52) (axis_times_within (basis_of c.args.dual.now.basis) (parts c.in_parts.result) t (2 ^ 52) c.requires.volume c.in-Some.ensures c.in_parts.ensures.small) (lit< tt))

pub returns-in-Some : goal.returns-in-Some
returns-in-Some c =
    let t = c.in-Some.t in
    let b = basis_of c.args.dual.now.basis in
    let f : FitsSigned w128 t = search rules in
    let within = axis_times_within b (parts c.in_parts.result) t (2 ^ 52) c.requires.volume c.in-Some.ensures c.in_parts.ensures.small in
    ap (λ k. multiple k b.tau) (narrow_is t f (fits_within t (2 ^ 52) within (lit< tt))) ∙ c.in-Some.ensures ∙ c.in_parts.ensures.is
