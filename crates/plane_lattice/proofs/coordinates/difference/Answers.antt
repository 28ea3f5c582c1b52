-- The difference fits where it is as small as required.
use Rattle.std.proofs.Common.{◌≡◌, ◌^◌, ◌+◌, ℤ, ◌-ℤ◌, ◌∙◌, ap, lit<, sym, subst, FitsSigned}
use Rattle.std.specs.Int.{w64, w128}
use Rattle.integers.specs.Size.{IsWithin}
use Rattle.integers.proofs.Coded.{again, again_is, fits_within}
use Rattle.integers.proofs.Ring.{IsWithin-sub}
use Rattle.integers.proofs.Wide.{wide, wide_is, wide_fits}
use Rattle.plane_lattice.specs.Bounds.{largest_combined}
use Rattle.plane_lattice.proofs.coordinates.difference.Goals as goal

module _ (t p : ℤ) (h : IsWithin (2 ^ 40) t) (k : IsWithin largest_combined p) where
  passed : wide (again t) -ℤ wide p ≡ t -ℤ p
  passed = λ i. (ap wide (again_is t (2 ^ 40) h (lit< tt)) ∙ wide_is (2 ^ 40) t (lit< tt) h) i -ℤ wide_is largest_combined p (lit< tt) k i

  fits : FitsSigned w128 (wide (again t) -ℤ wide p)
  fits =
      let P : ℤ → Type 0 = FitsSigned w128 in
      subst P (sym passed) (wide_fits (2 ^ 40 + largest_combined) (t -ℤ p) (lit< tt) (IsWithin-sub h k))

  is : wide (wide (again t) -ℤ wide p) ≡ t -ℤ p
  is = ap wide passed ∙ wide_is (2 ^ 40 + largest_combined) (t -ℤ p) (lit< tt) (IsWithin-sub h k)

pub overflow_sub-result : goal.overflow_sub-result
overflow_sub-result c = fits c.args.part.0 c.args.taken c.requires.part c.requires.taken

pub overflow_cast-result-2 : goal.overflow_cast-result-2
overflow_cast-result-2 c =
    let P : ℤ → Type 0 = FitsSigned w64 in
    subst P (sym (is c.args.part.0 c.args.taken c.requires.part c.requires.taken)) (fits_within (c.args.part.0 -ℤ c.args.taken) (2 ^ 62) c.requires.rest (lit< tt))

pub returns : goal.returns
returns c =
    ap again (is c.args.part.0 c.args.taken c.requires.part c.requires.taken)
    ∙ again_is (c.args.part.0 -ℤ c.args.taken) (2 ^ 62) c.requires.rest (lit< tt)
