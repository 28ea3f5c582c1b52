-- Entry by entry.
use Rattle.std.proofs.Common.{◌≡◌, ◌∙◌, ap, ℤ, ◌+ℤ◌, ◌-ℤ◌, ◌*ℤ◌, negsuc}
use Rattle.integers.proofs.Ring.{neg_as_mul}
use Rattle.symmetry.specs.Vectors.{plus, multiple}
use Rattle.symmetry.proofs.VectorLaws.{vector_path}
use Rattle.motions.specs.Views.{parts}
use Rattle.plane_lattice.proofs.means.difference.Goals as goal

taken : (x y : ℤ) → x -ℤ y ≡ x +ℤ negsuc 0 *ℤ y
taken x y = ap (λ z. x +ℤ z) (neg_as_mul y)

pub returns : goal.returns
unfolding plus multiple
returns c =
    let v = parts c.args.v.now in
    let w = parts c.args.w.now in
    vector_path (c.sub.ensures ∙ taken v.x w.x) (c.sub-2.ensures ∙ taken v.y w.y) (c.sub-3.ensures ∙ taken v.z w.z)
