-- Which matrices have an inverse of whole numbers: those with the determinant 1 or -1.
use Rattle.std.proofs.Common.{◌≡◌, ◌⊎◌, [], sym, ap, ◌∙◌, refl, pos, negsuc, ◌*ℤ◌}
use Rattle.integers.proofs.Solver.{Expr, Expr.{num, ◌⊗◌}, ring}
use Rattle.integers.proofs.Ring.{mul-eq-one}
use Rattle.symmetry.specs.Vectors.{Vector, Matrix, origin, plus, multiple, opposite, dot, cross, image, product, unit_matrix}
use Rattle.symmetry.specs.Motions.{Motion, followed_by, identity}
use Rattle.symmetry.proofs.VectorLaws.{minus-same, opposite-plus_same}
use Rattle.symmetry.proofs.MatrixLaws.{image-multiple, image-product, image-unit}
use Rattle.symmetry.proofs.MotionLaws.{motion_path}
use Rattle.motions.specs.Inverses.{determinant, adjugate, opposite_adjugate}
use Rattle.motions.proofs.Symbols.{Grid, dot_of, cross_of, columns_of, product_of, diagonal, symbols, entries, grid_linear}

abbrev determinant_of : Grid → Expr
determinant_of m = dot_of m.first (cross_of m.second m.third)

abbrev adjugate_of : Grid → Grid
adjugate_of m = columns_of (cross_of m.second m.third) (cross_of m.third m.first) (cross_of m.first m.second)

abbrev opposite_adjugate_of : Grid → Grid
opposite_adjugate_of m = columns_of (cross_of m.third m.second) (cross_of m.first m.third) (cross_of m.second m.first)

abbrev whole : Grid
whole = symbols 0

abbrev unit : Grid
unit = diagonal (num (pos 1))

module _ (m : Matrix) where
  pub product-adjugate : determinant m ≡ pos 1 → product m (adjugate m) ≡ unit_matrix
  unfolding plus multiple dot cross
  product-adjugate h =
      grid_linear (entries m []) (determinant_of whole) (num (pos 1)) h (diagonal (num (pos 1))) (product_of whole (adjugate_of whole)) unit tt

  pub adjugate-product : determinant m ≡ pos 1 → product (adjugate m) m ≡ unit_matrix
  unfolding plus multiple dot cross
  adjugate-product h =
      grid_linear (entries m []) (determinant_of whole) (num (pos 1)) h (diagonal (num (pos 1))) (product_of (adjugate_of whole) whole) unit tt

  pub product-opposite_adjugate : determinant m ≡ negsuc 0 → product m (opposite_adjugate m) ≡ unit_matrix
  unfolding plus multiple dot cross
  product-opposite_adjugate h =
      grid_linear (entries m []) (determinant_of whole) (num (negsuc 0)) h (diagonal (num (negsuc 0))) (product_of whole (opposite_adjugate_of whole)) unit tt

  pub opposite_adjugate-product : determinant m ≡ negsuc 0 → product (opposite_adjugate m) m ≡ unit_matrix
  unfolding plus multiple dot cross
  opposite_adjugate-product h =
      grid_linear (entries m []) (determinant_of whole) (num (negsuc 0)) h (diagonal (num (negsuc 0))) (product_of (opposite_adjugate_of whole) whole) unit tt

pub determinant-product : (m n : Matrix) → determinant (product m n) ≡ determinant m *ℤ determinant n
unfolding plus multiple dot cross
determinant-product m n =
    ring (entries m (entries n [])) (determinant_of (product_of whole (symbols 9))) (determinant_of whole ⊗ determinant_of (symbols 9)) tt

determinant-unit : determinant unit_matrix ≡ pos 1
unfolding dot cross
determinant-unit = refl

-- a matrix that some matrix undoes has the determinant 1 or -1
pub determinant_of_undone : (m n : Matrix) → product n m ≡ unit_matrix → (determinant m ≡ pos 1) ⊎ (determinant m ≡ negsuc 0)
determinant_of_undone m n e =
    mul-eq-one (determinant n) (determinant m) (sym (determinant-product n m) ∙ ap determinant e ∙ determinant-unit)

-- a motion and what takes its translation back by the inverse of its matrix
pub undone : (m n : Motion) → product m.matrix n.matrix ≡ unit_matrix → product n.matrix m.matrix ≡ unit_matrix
    → n.translation ≡ opposite (image n.matrix m.translation)
    → (followed_by m n ≡ identity) × (followed_by n m ≡ identity)
undone m n right left taken = (motion_path left after, motion_path right before)
  where
    after : plus (image n.matrix m.translation) n.translation ≡ origin
    after = ap (plus (image n.matrix m.translation)) taken ∙ minus-same (image n.matrix m.translation)

    there_and_back : image m.matrix (image n.matrix m.translation) ≡ m.translation
    there_and_back = sym (image-product m.matrix n.matrix m.translation) ∙ ap (λ (w : Matrix). image w m.translation) right ∙ image-unit m.translation

    before : plus (image m.matrix n.translation) m.translation ≡ origin
    before =
        ap (λ (v : Vector). plus (image m.matrix v) m.translation) taken
        ∙ ap (λ (v : Vector). plus v m.translation) (image-multiple m.matrix (negsuc 0) (image n.matrix m.translation))
        ∙ ap (λ (v : Vector). plus (opposite v) m.translation) there_and_back
        ∙ opposite-plus_same m.translation
