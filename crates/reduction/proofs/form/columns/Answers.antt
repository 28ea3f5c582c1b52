-- The bound of the entries bounds each step.
use Rattle.std.proofs.Common.{ℕ, zero, suc, ◌<◌, ℤ, T, List, [], ◌∷◌, arith, FitsSigned, w64}
use Rattle.integers.proofs.Solver.{Expr, Expr.{var, ◌⊕◌, ◌⊗◌}}
use Rattle.integers.proofs.Coded.{coded, code_fits, code_is, code_within, is_bounded, AllWithinBounds}
use Rattle.symmetry.specs.Vectors.{Vector, dot}
use Rattle.symmetry.specs.Sizes.{IsMatrixWithin, IsVectorWithin}
use Rattle.motions.specs.Views.{matrix_of}
use Rattle.reduction.specs.Forms.{column_of}
use Rattle.reduction.proofs.form.columns.Goals as goal

abbrev bounds : List ℕ
bounds = 50 ∷ 50 ∷ 50 ∷ 50 ∷ 50 ∷ 50 ∷ []

abbrev numbers : Vector → Vector → List ℤ
numbers v w = v.x ∷ v.y ∷ v.z ∷ w.x ∷ w.y ∷ w.z ∷ []

abbrev two : Expr
two = var 0 ⊗ var 3 ⊕ var 1 ⊗ var 4

abbrev three : Expr
three = two ⊕ var 2 ⊗ var 5

column_within : (rows : List (List ℤ)) → IsMatrixWithin 50 (matrix_of rows) → (i : ℕ) → i < 3 → IsVectorWithin 50 (column_of rows i)
column_within rows h zero l = record { x = h.first.x; y = h.second.x; z = h.third.x }
column_within rows h (suc zero) l = record { x = h.first.y; y = h.second.y; z = h.third.y }
column_within rows h (suc (suc zero)) l = record { x = h.first.z; y = h.second.z; z = h.third.z }
column_within rows h (suc (suc (suc i))) l = absurd (omega arith)

module _ (rows : List (List ℤ)) (h : IsMatrixWithin 50 (matrix_of rows)) (i j : ℕ) (first : i < 3) (second : j < 3) where
  within : AllWithinBounds bounds (numbers (column_of rows i) (column_of rows j))
  within =
      let v = column_within rows h i first in
      let w = column_within rows h j second in
      (v.x, (v.y, (v.z, (w.x, (w.y, (w.z, tt))))))

  fits : (step : Expr) → T (is_bounded bounds step) → FitsSigned w64 (coded (numbers (column_of rows i) (column_of rows j)) step)
  fits step t = code_fits bounds (numbers (column_of rows i) (column_of rows j)) step t within

pub overflow_mul-result : goal.overflow_mul-result
overflow_mul-result c = let h = c.requires in fits c.args.m.now.w h.matrix c.args.i c.args.j h.first h.second (var 0 ⊗ var 3) tt

pub overflow_mul-result-2 : goal.overflow_mul-result-2
overflow_mul-result-2 c = let h = c.requires in fits c.args.m.now.w h.matrix c.args.i c.args.j h.first h.second (var 1 ⊗ var 4) tt

pub overflow_add-result : goal.overflow_add-result
overflow_add-result c = let h = c.requires in fits c.args.m.now.w h.matrix c.args.i c.args.j h.first h.second two tt

pub overflow_mul-result-3 : goal.overflow_mul-result-3
overflow_mul-result-3 c = let h = c.requires in fits c.args.m.now.w h.matrix c.args.i c.args.j h.first h.second (var 2 ⊗ var 5) tt

pub overflow_add-result-2 : goal.overflow_add-result-2
overflow_add-result-2 c = let h = c.requires in fits c.args.m.now.w h.matrix c.args.i c.args.j h.first h.second three tt

pub returns : goal.returns
unfolding dot
returns c =
    let e = numbers (column_of c.args.m.now.w c.args.i) (column_of c.args.m.now.w c.args.j) in
    let h = within c.args.m.now.w c.requires.matrix c.args.i c.args.j c.requires.first c.requires.second in
    record { is = code_is bounds e three tt h; small = code_within bounds e three tt h }
