-- The bounds of the row and of the column bound each step.
use Rattle.std.proofs.Common.{ℕ, ◌^◌, ◌∷◌, List, [], ℤ, T, FitsSigned, w64}
use Rattle.integers.specs.Size.{IsWithin}
use Rattle.integers.proofs.Solver.{Expr, Expr.{var, ◌⊕◌, ◌⊗◌}}
use Rattle.integers.proofs.Coded.{coded, code_fits, code_is, code_within, is_bounded, AllWithinBounds}
use Rattle.symmetry.specs.Vectors.{Vector, dot}
use Rattle.symmetry.specs.Sizes.{IsVectorWithin}
use Rattle.motions.specs.Bounds.{largest_cofactor}
use Rattle.motions.specs.Views.{vector_of}
use Rattle.motions.proofs.products.row_by_column.Goals as goal

abbrev bounds : List ℕ
bounds = largest_cofactor ∷ largest_cofactor ∷ largest_cofactor ∷ 2 ^ 40 ∷ 2 ^ 40 ∷ 2 ^ 40 ∷ []

abbrev numbers : Vector → ℤ → ℤ → ℤ → List ℤ
numbers r x y z = r.x ∷ r.y ∷ r.z ∷ x ∷ y ∷ z ∷ []

abbrev two : Expr
two = var 0 ⊗ var 3 ⊕ var 1 ⊗ var 4

abbrev three : Expr
three = two ⊕ var 2 ⊗ var 5

module _ {r : Vector} {x y z : ℤ} (row : IsVectorWithin largest_cofactor r) (first : IsWithin (2 ^ 40) x) (second : IsWithin (2 ^ 40) y) (third : IsWithin (2 ^ 40) z) where
  within : AllWithinBounds bounds (numbers r x y z)
  within = (row.x, (row.y, (row.z, (first, (second, (third, tt))))))

  fits : (step : Expr) → T (is_bounded bounds step) → FitsSigned w64 (coded (numbers r x y z) step)
  fits step t = code_fits bounds (numbers r x y z) step t within

pub overflow_mul-result : goal.overflow_mul-result
overflow_mul-result c = let h = c.requires in fits h.row h.x h.y h.z (var 0 ⊗ var 3) tt

pub overflow_mul-result-2 : goal.overflow_mul-result-2
overflow_mul-result-2 c = let h = c.requires in fits h.row h.x h.y h.z (var 1 ⊗ var 4) tt

pub overflow_add-result : goal.overflow_add-result
overflow_add-result c = let h = c.requires in fits h.row h.x h.y h.z two tt

pub overflow_mul-result-3 : goal.overflow_mul-result-3
overflow_mul-result-3 c = let h = c.requires in fits h.row h.x h.y h.z (var 2 ⊗ var 5) tt

pub overflow_add-result-2 : goal.overflow_add-result-2
overflow_add-result-2 c = let h = c.requires in fits h.row h.x h.y h.z three tt

pub returns : goal.returns
unfolding dot
returns c =
    let e = numbers (vector_of c.args.row.now) c.args.x c.args.y c.args.z in
    let h = within c.requires.row c.requires.x c.requires.y c.requires.z in
    record { is = code_is bounds e three tt h; small = code_within bounds e three tt h }
