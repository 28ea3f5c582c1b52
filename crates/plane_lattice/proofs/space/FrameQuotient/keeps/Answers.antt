-- Shifts go to shifts exactly where a and b do.
use Rattle.std.proofs.Common.{◌↔◌, IsTrue, subst}
use Rattle.symmetry.specs.Frames.{Basis}
use Rattle.symmetry.specs.Vectors.{image}
use Rattle.motions.specs.Views.{motion_of}
use Rattle.plane_lattice.specs.Coordinates.{IsPlaneCombination}
use Rattle.plane_lattice.specs.FrameView.{basis_of_frame}
use Rattle.plane_lattice.specs.Laws.QuotientLaws.{plane_keeps}
use Rattle.plane_lattice.proofs.space.FrameQuotient.keeps.Goals as goal

pub returns : goal.returns
returns c =
    let m = motion_of c.args.m.now in
    let keeps = plane_keeps (basis_of_frame c.args.self.now) m in
    let tests = subst (λ (f : Basis). IsTrue c.keeps_plane.result ↔ (IsPlaneCombination f (image m.matrix f.a) × IsPlaneCombination f (image m.matrix f.b)))
    c.dual.ensures c.keeps_plane.ensures in
    (λ t. keeps.0 (tests.0 t), λ k. tests.1 (keeps.1 k))
