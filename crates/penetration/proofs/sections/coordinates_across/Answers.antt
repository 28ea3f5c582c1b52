-- The whole coordinates are small, so that each fits.
use Rattle.std.proofs.Common.{rules, FitsSigned, refl, sym, ap, ◌∙◌, subst, lit<}
use Rattle.std.specs.Int.{w128}
use Rattle.integers.specs.Size.{IsWithin}
use Rattle.integers.proofs.Coded.{fits_within}
use Rattle.integers.proofs.Wide.{narrow_fits, narrow_is}
use Rattle.symmetry.specs.Frames.{combination}
use Rattle.symmetry.proofs.VectorLaws.{vector_path}
use Rattle.motions.specs.BasisView.{basis_of}
use Rattle.motions.specs.Views.{vector_of}
use Rattle.penetration.proofs.sections.coordinates_across.Goals as goal

pub overflow_cast-result : goal.overflow_cast-result
overflow_cast-result c =
    let v = vector_of c.in-Some.c in
    let f : FitsSigned w128 v.x = search rules in
    narrow_fits v.x f (fits_within v.x 500 (c.requires.near v c.in-Some.ensures).x (lit< tt))

pub overflow_cast-result-in-Some : goal.overflow_cast-result-in-Some
overflow_cast-result-in-Some c =
    let v = vector_of c.in-Some.c in
    let f : FitsSigned w128 v.y = search rules in
    narrow_fits v.y f (fits_within v.y 500 (c.requires.near v c.in-Some.ensures).y (lit< tt))

pub returns-in-Some-clause-is : goal.returns-in-Some-clause-is
returns-in-Some-clause-is c =
    let v = vector_of c.in-Some.c in
    let f : FitsSigned w128 v.x = search rules in
    let f' : FitsSigned w128 v.y = search rules in
    let h = c.requires.near v c.in-Some.ensures in (
      v.z,
      ap (combination (basis_of c.args.dual.now.basis))
          (vector_path (narrow_is v.x f (fits_within v.x 500 h.x (lit< tt))) (narrow_is v.y f' (fits_within v.y 500 h.y (lit< tt))) refl)
          ∙ c.in-Some.ensures,
    )

pub returns-in-Some-clause-small : goal.returns-in-Some-clause-small
returns-in-Some-clause-small c =
    let v = vector_of c.in-Some.c in
    let f : FitsSigned w128 v.x = search rules in
    let f' : FitsSigned w128 v.y = search rules in
    let h = c.requires.near v c.in-Some.ensures in
    let P = IsWithin 500 in
    record {
      x = subst P (sym (narrow_is v.x f (fits_within v.x 500 h.x (lit< tt)))) h.x;
      y = subst P (sym (narrow_is v.y f' (fits_within v.y 500 h.y (lit< tt)))) h.y;
    }
