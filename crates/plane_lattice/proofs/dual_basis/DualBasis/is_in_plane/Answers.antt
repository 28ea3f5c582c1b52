-- The whole coordinates are the only ones.
use Rattle.std.proofs.Common.{rules, FitsSigned}
use Rattle.std.specs.Int.{w128}
use Rattle.motions.specs.BasisView.{basis_of}
use Rattle.motions.specs.Views.{parts, vector_of}
use Rattle.plane_lattice.proofs.Cramer.{in_plane_by_third}
use Rattle.plane_lattice.proofs.dual_basis.DualBasis.is_in_plane.Goals as goal

pub returns-in-Some : goal.returns-in-Some
returns-in-Some c =
    let f : FitsSigned w128 (vector_of c.in-Some.c).z = search rules in
    in_plane_by_third (basis_of c.args.self.now.basis) (parts c.args.v.now) (vector_of c.in-Some.c) f c.requires.volume c.in-Some.ensures
