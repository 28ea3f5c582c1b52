-- The bounds of the products bound their sum.
use Rattle.std.proofs.Common.{◌≡◌, ◌*◌, ℕ, ℤ, ◌+ℤ◌, ◌*ℤ◌, ◌∙◌, ap, lit<, sym, subst}
use Rattle.integers.specs.Size.{IsWithin}
use Rattle.integers.proofs.Wide.{wide, wide_is, wide_sum_fits, wide_sum_is, within_sum}
use Rattle.motions.specs.Views.{vector_of}
use Rattle.plane_lattice.specs.Bounds.{largest_combined, largest_entry, largest_scaled}
use Rattle.plane_lattice.proofs.coordinates.combined.Goals as goal

abbrev most : ℕ
most = largest_scaled * largest_entry

-- a factor that was passed
read : (x y : ℤ) → IsWithin largest_scaled x → wide x *ℤ y ≡ x *ℤ y
read x y h = ap (λ z. z *ℤ y) (wide_is largest_scaled x (lit< tt) h)

pub overflow_add-result-2 : goal.overflow_add-result-2
overflow_add-result-2 c =
    wide_sum_fits most c.wide_multiple.result c.wide_multiple-2.result c.wide_multiple-3.result (lit< tt)
    c.wide_multiple.ensures.small c.wide_multiple-2.ensures.small c.wide_multiple-3.ensures.small

pub returns : goal.returns
returns c =
    let sum = wide_sum_is most c.wide_multiple.result c.wide_multiple-2.result c.wide_multiple-3.result (lit< tt)
    c.wide_multiple.ensures.small c.wide_multiple-2.ensures.small c.wide_multiple-3.ensures.small in
    let P : ℤ → Type 0 = IsWithin largest_combined in
    record {
      is = sum
          ∙ (λ i.
          (c.wide_multiple.ensures.is ∙ read (vector_of c.args.c.now).x _ c.requires.coefficients.x) i
          +ℤ (c.wide_multiple-2.ensures.is ∙ read (vector_of c.args.c.now).y _ c.requires.coefficients.y) i
          +ℤ (c.wide_multiple-3.ensures.is ∙ read (vector_of c.args.c.now).z _ c.requires.coefficients.z) i);
      small = subst P (sym sum)
          (within_sum most c.wide_multiple.result c.wide_multiple-2.result c.wide_multiple-3.result (lit< tt)
          c.wide_multiple.ensures.small c.wide_multiple-2.ensures.small c.wide_multiple-3.ensures.small);
    }
