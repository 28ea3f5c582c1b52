-- (hkl).a, (hkl).b and (hkl).tau, and the volume, are tested one after the other.
use Rattle.std.proofs.Common.{◌≡◌, ◌<ℤ◌, pos, ◌∙◌, sym, subst, lit<}
use Rattle.integers.proofs.Wide.{wide_zero, not_above, above_tells}
use Rattle.symmetry.specs.Vectors.{dot}
use Rattle.motions.specs.BasisView.{basis_of}
use Rattle.motions.specs.Views.{row_of}
use Rattle.plane_lattice.specs.Bounds.{largest_period, largest_scaled}
use Rattle.plane_lattice.proofs.Oriented.{oriented_by_volume}
use Rattle.plane_lattice.proofs.frame_tests.is_oriented.Goals as goal

pub returns : goal.returns
returns c =
    let plane = c.args.plane.now in
    let f = basis_of c.args.dual.now.basis in
    let a : dot (row_of plane) f.a ≡ pos 0 = sym c.height_of.ensures.is ∙ wide_zero largest_period c.height_of.result (lit< tt) c.height_of.ensures.small c.if-height_of-ne0.false in
    let b : dot (row_of plane) f.b ≡ pos 0 =
    sym c.height_of-else-height_of-ne0.ensures.is ∙ wide_zero largest_period c.height_of-else-height_of-ne0.result (lit< tt) c.height_of-else-height_of-ne0.ensures.small c.if-height_of-ne0-2.false in
    let above : pos 0 <ℤ dot (row_of plane) f.tau =
    subst (λ d. pos 0 <ℤ d) c.height_of-2.ensures.is (not_above largest_period c.height_of-2.result (lit< tt) c.height_of-2.ensures.small c.if-height_of-le0.false) in
    let test = above_tells largest_scaled c.args.dual.now.volume (lit< tt) c.args.dual.now.volume_small in
    let tells = oriented_by_volume (row_of plane) f plane.coprime a b above in
    (λ t. tells.0 (subst (λ d. pos 0 <ℤ d) c.args.dual.now.volume_is (test.0 t)), λ k. test.1 (subst (λ d. pos 0 <ℤ d) (sym c.args.dual.now.volume_is) (tells.1 k)))
