-- The images of a and b are tested one after the other.
use Rattle.std.proofs.Common.{sym, subst}
use Rattle.motions.specs.BasisView.{basis_of}
use Rattle.plane_lattice.specs.Coordinates.{IsPlaneCombination}
use Rattle.plane_lattice.proofs.space.keeps_plane.Goals as goal

pub returns-then-is_in_plane : goal.returns-then-is_in_plane
returns-then-is_in_plane c =
    let P = IsPlaneCombination (basis_of c.args.dual.now.basis) in (
      λ t. (
        subst P c.image.ensures.is (c.is_in_plane.ensures.0 c.if-is_in_plane.true),
        subst P c.image-then-is_in_plane.ensures.is (c.is_in_plane-then-is_in_plane.ensures.0 t),
      ),
      λ (a, b). c.is_in_plane-then-is_in_plane.ensures.1 (subst P (sym c.image-then-is_in_plane.ensures.is) b),
    )

pub returns-else-is_in_plane : goal.returns-else-is_in_plane
returns-else-is_in_plane c =
    let P = IsPlaneCombination (basis_of c.args.dual.now.basis) in
    (λ t. absurd (cc (t, c.if-is_in_plane.false)), λ (a, b). c.is_in_plane.ensures.1 (subst P (sym c.image.ensures.is) a))
