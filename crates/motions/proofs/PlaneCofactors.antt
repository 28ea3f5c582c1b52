-- Which matrices of a plane have an inverse of whole numbers: those with the determinant 1 or -1.
use Rattle.std.proofs.Common.{◌≡◌, ◌⊎◌, ◌∷◌, [], ℤ, sym, ap, ◌∙◌, arith, pos, negsuc, ◌*ℤ◌}
use Rattle.std.proofs.lemmas.Int.{ints}
use Rattle.integers.proofs.Spread.{spread}
use Rattle.integers.proofs.Solver.{Expr.{var, ◌⊕◌, ◌⊝◌, ◌⊗◌}, ring}
use Rattle.integers.proofs.Ring.{mul-eq-one}
use Rattle.motions.specs.PlaneMatrices.{Pair, Matrix2, adjugate2, determinant2, image2, opposite2, opposite_adjugate2, origin2, plus2, product2, unit2}
use Rattle.motions.specs.Laws.PlaneMatrixLaws.{image2-opposite, image2-product, image2-unit, matrix2_path, opposite-plus2_same, pair_path, plus2-opposite}
use Rattle.motions.specs.Signs.{sign_product}
use Rattle.motions.specs.Laws.SignLaws.{sign_product-same}
use Rattle.motions.specs.Layers.{PlanarMotion, planar_followed_by, planar_identity}
use Rattle.motions.specs.Laws.LayerLaws.{planar_path}

-- a product with a number whose sign is changed
product-negative : (a b : ℤ) → a *ℤ (negsuc 0 *ℤ b) ≡ negsuc 0 *ℤ (a *ℤ b)
product-negative a b = simp spread (omega (arith, ints))

negative-product : (a b : ℤ) → negsuc 0 *ℤ a *ℤ b ≡ negsuc 0 *ℤ (a *ℤ b)
negative-product a b = simp spread (omega (arith, ints))

module _ (m : Matrix2) where
  abbrev p : ℤ
  p = m.first.x

  abbrev q : ℤ
  q = m.first.y

  abbrev r : ℤ
  r = m.second.x

  abbrev s : ℤ
  s = m.second.y

  pub product2-adjugate : determinant2 m ≡ pos 1 → product2 m (adjugate2 m) ≡ unit2
  product2-adjugate h =
      matrix2_path
      (pair_path (omega (arith, ints, product-negative q r)) (omega (arith, ints, product-negative p q)))
      (pair_path (omega (arith, ints, product-negative s r)) (omega (arith, ints, product-negative r q)))

  pub adjugate2-product : determinant2 m ≡ pos 1 → product2 (adjugate2 m) m ≡ unit2
  adjugate2-product h =
      matrix2_path
      (pair_path (omega (arith, ints, negative-product q r)) (omega (arith, ints, negative-product q s)))
      (pair_path (omega (arith, ints, negative-product r p)) (omega (arith, ints, negative-product r q)))

  pub product2-opposite_adjugate : determinant2 m ≡ negsuc 0 → product2 m (opposite_adjugate2 m) ≡ unit2
  product2-opposite_adjugate h =
      matrix2_path
      (pair_path (omega (arith, ints, product-negative p s)) (omega (arith, ints, product-negative q p)))
      (pair_path (omega (arith, ints, product-negative r s)) (omega (arith, ints, product-negative s p)))

  pub opposite_adjugate2-product : determinant2 m ≡ negsuc 0 → product2 (opposite_adjugate2 m) m ≡ unit2
  opposite_adjugate2-product h =
      matrix2_path
      (pair_path (omega (arith, ints, negative-product s p)) (omega (arith, ints, negative-product s q)))
      (pair_path (omega (arith, ints, negative-product p r)) (omega (arith, ints, negative-product p s)))

pub determinant2-product : (m n : Matrix2) → determinant2 (product2 m n) ≡ determinant2 m *ℤ determinant2 n
determinant2-product m n =
    ring (m.first.x ∷ m.first.y ∷ m.second.x ∷ m.second.y ∷ n.first.x ∷ n.first.y ∷ n.second.x ∷ n.second.y ∷ [])
    ((var 0 ⊗ var 4 ⊕ var 1 ⊗ var 6) ⊗ (var 2 ⊗ var 5 ⊕ var 3 ⊗ var 7) ⊝ (var 0 ⊗ var 5 ⊕ var 1 ⊗ var 7) ⊗ (var 2 ⊗ var 4 ⊕ var 3 ⊗ var 6))
    ((var 0 ⊗ var 3 ⊝ var 1 ⊗ var 2) ⊗ (var 4 ⊗ var 7 ⊝ var 5 ⊗ var 6)) tt

-- a matrix that some matrix undoes has the determinant 1 or -1
pub determinant2_of_undone : (m n : Matrix2) → product2 n m ≡ unit2 → (determinant2 m ≡ pos 1) ⊎ (determinant2 m ≡ negsuc 0)
determinant2_of_undone m n e = mul-eq-one (determinant2 n) (determinant2 m) (sym (determinant2-product n m) ∙ ap determinant2 e)

-- a motion and what takes its translation back by the inverse of its matrix
pub planar_undone : (m n : PlanarMotion) → product2 m.matrix n.matrix ≡ unit2 → product2 n.matrix m.matrix ≡ unit2 → n.side ≡ m.side
    → n.translation ≡ opposite2 (image2 n.matrix m.translation)
    → (planar_followed_by m n ≡ planar_identity) × (planar_followed_by n m ≡ planar_identity)
planar_undone m n right left side taken = (
  planar_path left (ap (λ e. sign_product e m.side) side ∙ sign_product-same m.side) after,
  planar_path right (ap (λ e. sign_product m.side e) side ∙ sign_product-same m.side) before,
)
  where
    after : plus2 (image2 n.matrix m.translation) n.translation ≡ origin2
    after = ap (plus2 (image2 n.matrix m.translation)) taken ∙ plus2-opposite (image2 n.matrix m.translation)

    there_and_back : image2 m.matrix (image2 n.matrix m.translation) ≡ m.translation
    there_and_back = sym (image2-product m.matrix n.matrix m.translation) ∙ ap (λ (w : Matrix2). image2 w m.translation) right ∙ image2-unit m.translation

    before : plus2 (image2 m.matrix n.translation) m.translation ≡ origin2
    before =
        ap (λ (v : Pair). plus2 (image2 m.matrix v) m.translation) taken
        ∙ ap (λ (v : Pair). plus2 v m.translation) (image2-opposite m.matrix (image2 n.matrix m.translation))
        ∙ ap (λ (v : Pair). plus2 (opposite2 v) m.translation) there_and_back
        ∙ opposite-plus2_same m.translation
