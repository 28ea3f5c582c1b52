-- Shifts go to shifts exactly where the axis goes to a multiple of it.
use Rattle.std.proofs.Common.{◌↔◌, IsTrue, subst}
use Rattle.symmetry.specs.Frames.{Basis}
use Rattle.symmetry.specs.Vectors.{Vector, image}
use Rattle.motions.specs.BasisView.{basis_of}
use Rattle.motions.specs.Views.{motion_of}
use Rattle.penetration.specs.RodFrameView.{basis_of_rod}
use Rattle.penetration.specs.RodHomes.{IsAlongAxis}
use Rattle.penetration.specs.RodQuotientLaws.{axis_keeps}
use Rattle.penetration.proofs.shifts.RodFrameQuotient.keeps.Goals as goal

pub returns : goal.returns
returns c =
    let m = motion_of c.args.m.now in
    let keeps = axis_keeps (basis_of_rod c.args.self.now) m in
    let told : IsTrue c.is_along_axis.result ↔ IsAlongAxis (basis_of c.dual-dual.result.basis) (image m.matrix (basis_of c.dual-dual.result.basis).tau) =
    subst (λ (v : Vector). IsTrue c.is_along_axis.result ↔ IsAlongAxis (basis_of c.dual-dual.result.basis) v) c.image.ensures.is c.is_along_axis.ensures in
    let tests = subst (λ (f : Basis). IsTrue c.is_along_axis.result ↔ IsAlongAxis f (image m.matrix f.tau)) c.dual-dual.ensures told in
    (λ t. keeps.0 (tests.0 t), λ k. tests.1 (keeps.1 k))
