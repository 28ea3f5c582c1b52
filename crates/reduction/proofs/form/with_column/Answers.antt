-- Entry by entry.
use Rattle.std.proofs.Common.{ℤ, ◌≡◌, ◌+ℤ◌, [], ◌∷◌, ap, ◌∙◌}
use Rattle.integers.specs.Size.{IsWithin}
use Rattle.integers.proofs.Coded.{again, code_is}
use Rattle.integers.proofs.Solver.{Expr.{var, ◌⊕◌}}
use Rattle.symmetry.specs.Vectors.{dot, multiple, plus}
use Rattle.symmetry.proofs.VectorLaws.{vector_path}
use Rattle.motions.specs.Views.{vector_of}
use Rattle.reduction.specs.Bounds.{largest_columns, largest_form}
use Rattle.reduction.specs.Forms.{column_of}
use Rattle.reduction.proofs.form.with_column.Goals as goal

-- the sum of an entry and a product of columns, as the code computes it
sum_is : (x y z : ℤ) → IsWithin largest_form x → IsWithin largest_columns y → y ≡ z → again (again x +ℤ again y) ≡ x +ℤ z
sum_is x y z h k e = code_is (largest_form ∷ largest_columns ∷ []) (x ∷ y ∷ []) (var 0 ⊕ var 1) tt (h, (k, tt)) ∙ ap (λ t. x +ℤ t) e

pub returns : goal.returns
unfolding dot plus multiple
returns c =
    let row = vector_of c.args.row.now in
    vector_path
    (sum_is row.x c.columns.result (dot (column_of c.args.m.now.w c.args.i) (column_of c.args.m.now.w 0)) c.requires.row.x c.columns.ensures.small c.columns.ensures.is)
    (sum_is row.y c.columns-2.result (dot (column_of c.args.m.now.w c.args.i) (column_of c.args.m.now.w 1)) c.requires.row.y c.columns-2.ensures.small c.columns-2.ensures.is)
    (sum_is row.z c.columns-3.result (dot (column_of c.args.m.now.w c.args.i) (column_of c.args.m.now.w 2)) c.requires.row.z c.columns-3.ensures.small c.columns-3.ensures.is)
