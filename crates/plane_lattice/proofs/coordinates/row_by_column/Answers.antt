-- The bounds of the products bound their sum.
use Rattle.std.proofs.Common.{◌*◌, ◌^◌, ℕ, ℤ, ◌+ℤ◌, ◌*ℤ◌, ◌≡◌, ◌∙◌, ap, lit<, sym, subst}
use Rattle.integers.specs.Size.{IsWithin}
use Rattle.integers.proofs.Coded.{again, again_is}
use Rattle.integers.proofs.Wide.{wide_sum_fits, wide_sum_is, within_sum}
use Rattle.symmetry.specs.Vectors.{dot}
use Rattle.motions.specs.Views.{vector_of}
use Rattle.plane_lattice.specs.Bounds.{largest_cross, largest_scaled}
use Rattle.plane_lattice.proofs.coordinates.row_by_column.Goals as goal

abbrev most : ℕ
most = largest_cross * 2 ^ 52

-- a factor that was passed
read : (x y : ℤ) → IsWithin largest_cross x → again x *ℤ y ≡ x *ℤ y
read x y h = ap (λ z. z *ℤ y) (again_is x largest_cross h (lit< tt))

pub overflow_add-result-2 : goal.overflow_add-result-2
overflow_add-result-2 c =
    wide_sum_fits most c.wide_product.result c.wide_product-2.result c.wide_product-3.result (lit< tt)
    c.wide_product.ensures.small c.wide_product-2.ensures.small c.wide_product-3.ensures.small

pub returns-clause-is : goal.returns-clause-is
unfolding dot
returns-clause-is c =
    wide_sum_is most c.wide_product.result c.wide_product-2.result c.wide_product-3.result (lit< tt)
    c.wide_product.ensures.small c.wide_product-2.ensures.small c.wide_product-3.ensures.small
    ∙ (λ i.
    (c.wide_product.ensures.is ∙ read (vector_of c.args.row.now).x _ c.requires.row.x) i
    +ℤ (c.wide_product-2.ensures.is ∙ read (vector_of c.args.row.now).y _ c.requires.row.y) i
    +ℤ (c.wide_product-3.ensures.is ∙ read (vector_of c.args.row.now).z _ c.requires.row.z) i)

pub returns-clause-small : goal.returns-clause-small
returns-clause-small c =
    let P : ℤ → Type 0 = IsWithin largest_scaled in
    subst P
    (sym (wide_sum_is most c.wide_product.result c.wide_product-2.result c.wide_product-3.result (lit< tt)
    c.wide_product.ensures.small c.wide_product-2.ensures.small c.wide_product-3.ensures.small))
    (within_sum most c.wide_product.result c.wide_product-2.result c.wide_product-3.result (lit< tt)
    c.wide_product.ensures.small c.wide_product-2.ensures.small c.wide_product-3.ensures.small)
