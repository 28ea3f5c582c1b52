-- The whole coordinates are the only coefficients.
use Rattle.std.proofs.Common.{◌↔◌, IsTrue, not, subst}
use Rattle.motions.specs.BasisView.{basis_of}
use Rattle.motions.specs.Views.{parts, vector_of}
use Rattle.plane_lattice.specs.Skews.{IsFar}
use Rattle.plane_lattice.proofs.Cramer.{far_by_coordinates}
use Rattle.plane_lattice.proofs.skews.is_far.Goals as goal

pub returns-in-Some : goal.returns-in-Some
returns-in-Some c =
    let f = basis_of c.args.dual.now.basis in
    subst (λ v. IsTrue (not c.are_within.result) ↔ IsFar f v) c.image.ensures.is
    (far_by_coordinates f (parts c.image.result) (vector_of c.in-Some.c) c.are_within.result c.requires.volume c.in-Some.ensures c.are_within.ensures)
