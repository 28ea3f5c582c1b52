-- The indices are at most INDEX in size.
use Rattle.std.proofs.Common.{◌≡◌, ℤ, ◌∙◌, lit<, sym, subst}
use Rattle.std.specs.Prelude.{unsigned_abs}
use Rattle.integers.specs.Size.{IsWithin}
use Rattle.integers.proofs.Coded.{again_is}
use Rattle.integers.proofs.Wide.{wide, wide_is}
use Rattle.symmetry.specs.Vectors.{dot}
use Rattle.motions.specs.Views.{parts, row_of}
use Rattle.motions.specs.declared.miller.TheConstants.{INDEX}
use Rattle.plane_lattice.specs.Bounds.{largest_period, largest_scaled}
use Rattle.symmetry.proofs.Sizes.{dot_within}
use Rattle.plane_lattice.proofs.frame_tests.height_of.Goals as goal

pub returns : goal.returns
returns c =
    let plane = c.args.plane.now in
    let v = parts c.args.v.now in
    let h = plane.in_range in
    let is : wide c.row_by_column.result ≡ dot (row_of plane) v =
    wide_is largest_scaled c.row_by_column.result (lit< tt) c.row_by_column.ensures.small ∙ c.row_by_column.ensures.is
    ∙ (λ i. dot (record {
      x = again_is plane.h (unsigned_abs INDEX) h.x (lit< tt) i;
      y = again_is plane.k (unsigned_abs INDEX) h.y (lit< tt) i;
      z = again_is plane.l (unsigned_abs INDEX) h.z (lit< tt) i;
    }) v) in
    let P : ℤ → Type 0 = IsWithin largest_period in
    record { is = is; small = subst P (sym is) (dot_within h c.requires) }
