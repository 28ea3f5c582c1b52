-- The first coordinate is the number, and no larger than the vector.
use Rattle.std.proofs.Common.{rules, ◌^◌, ◌∙◌, FitsSigned, ap, lit<}
use Rattle.std.specs.Int.{w128}
use Rattle.integers.proofs.Coded.{fits_within}
use Rattle.integers.proofs.Wide.{narrow_fits, narrow_is}
use Rattle.symmetry.specs.Vectors.{multiple}
use Rattle.motions.specs.BasisView.{basis_of}
use Rattle.motions.specs.Views.{parts, vector_of}
use Rattle.line_scans.proofs.Multiples.{first_is, first_within, is_combination}
use Rattle.line_scans.proofs.viewpoint.multiple_of_a.Goals as goal

pub unreachable-requires : goal.unreachable-requires
unreachable-requires c =
    c.in_default.ensures (is_combination (basis_of c.args.dual.now.basis) c.requires.volume (parts c.args.v.now) c.requires.multiple)

pub overflow_cast-result : goal.overflow_cast-result
overflow_cast-result c =
    let x = (vector_of c.in-Some.c).x in
    let wide : FitsSigned w128 x = search rules in
    narrow_fits x wide
    (fits_within x (2 ^ 52)
    (first_within (basis_of c.args.dual.now.basis) c.requires.volume (parts c.args.v.now) c.requires.multiple (2 ^ 52) c.requires.vector (vector_of c.in-Some.c) c.in-Some.ensures)
    (lit< tt))

pub returns : goal.returns
returns c =
    let b = basis_of c.args.dual.now.basis in
    let x = (vector_of c.in-Some.c).x in
    let wide : FitsSigned w128 x = search rules in
    ap (λ k. multiple k b.a)
    (narrow_is x wide
    (fits_within x (2 ^ 52)
    (first_within b c.requires.volume (parts c.args.v.now) c.requires.multiple (2 ^ 52) c.requires.vector (vector_of c.in-Some.c) c.in-Some.ensures)
    (lit< tt)))
    ∙ first_is b c.requires.volume (parts c.args.v.now) c.requires.multiple (vector_of c.in-Some.c) c.in-Some.ensures
