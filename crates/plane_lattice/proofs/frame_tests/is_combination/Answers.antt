-- There are whole coordinates exactly where the vector is a whole combination.
use Rattle.motions.specs.BasisView.{basis_of}
use Rattle.motions.specs.Views.{parts, vector_of}
use Rattle.plane_lattice.specs.Coordinates.{IsCombination}
use Rattle.plane_lattice.proofs.Options.{some_tells}
use Rattle.plane_lattice.proofs.frame_tests.is_combination.Goals as goal

pub returns : goal.returns
returns c =
    let f = basis_of c.args.dual.now.basis in
    let v = parts c.args.v.now in
    some_tells (IsCombination f v) _ c.coordinates.result c.is_some.result c.is_some.ensures c.coordinates.ensures (λ x e. (vector_of x, e))
