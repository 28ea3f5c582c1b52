-- Block forms of motions of a layer, and their products.
use Rattle.std.proofs.Common.{◌≡◌, ℤ, pos, ◌+ℤ◌, ◌*ℤ◌, sym, ap, ◌∙◌, arith}
use Rattle.std.proofs.lemmas.Int.{ints}
use Rattle.integers.proofs.Spread.{spread}
use Rattle.symmetry.specs.Vectors.{Matrix, Vector, dot, image, multiple, plus, product}
use Rattle.symmetry.specs.Motions.{Motion, followed_by}
use Rattle.symmetry.proofs.VectorLaws.{vector_path}
use Rattle.symmetry.proofs.MatrixLaws.{matrix_path}
use Rattle.motions.specs.Laws.SignLaws.{sign_value-sign_product}
use Rattle.motions.specs.Signs.{sign_value}
use Rattle.motions.specs.Layers.{IsBlockForm, PlanarMotion, block_matrix, planar_followed_by}

-- an entry of the product of two blocks
in_plane : (a b p r : ℤ) → a *ℤ p +ℤ b *ℤ r +ℤ pos 0 *ℤ pos 0 ≡ a *ℤ p +ℤ b *ℤ r
in_plane a b p r = omega (arith, ints)

pub block_products : (m n : PlanarMotion) → product (block_matrix n) (block_matrix m) ≡ block_matrix (planar_followed_by m n)
unfolding plus multiple
block_products m n =
    matrix_path
    (vector_path (omega (arith, ints)) (omega (arith, ints)) (omega (arith, ints)))
    (vector_path (omega (arith, ints)) (omega (arith, ints)) (omega (arith, ints)))
    (vector_path (omega (arith, ints)) (omega (arith, ints))
    (ones (sign_value n.side) (sign_value m.side) ∙ sym (sign_value-sign_product n.side m.side)))
  where
    ones : (d e : ℤ) → pos 0 *ℤ pos 0 +ℤ pos 0 *ℤ pos 0 +ℤ d *ℤ e ≡ d *ℤ e
    ones d e = omega (arith, ints)

-- an entry of the translation, with two half parts for a part
doubled_entry : (a b u v w x y z : ℤ) → u ≡ pos 2 *ℤ x → v ≡ pos 2 *ℤ y → w ≡ pos 2 *ℤ z → (t : ℤ) → t ≡ pos 0
    → a *ℤ u +ℤ b *ℤ v +ℤ w ≡ pos 2 *ℤ (a *ℤ x +ℤ b *ℤ y +ℤ pos 0 *ℤ t +ℤ z)
doubled_entry a b u v w x y z p q r t zero =
    (λ i. a *ℤ p i +ℤ b *ℤ q i +ℤ r i) ∙ two a b x y z ∙ (λ i. pos 2 *ℤ (a *ℤ x +ℤ b *ℤ y +ℤ pos 0 *ℤ sym zero i +ℤ z))
  where
    two : (a b x y z : ℤ) → a *ℤ (pos 2 *ℤ x) +ℤ b *ℤ (pos 2 *ℤ y) +ℤ pos 2 *ℤ z ≡ pos 2 *ℤ (a *ℤ x +ℤ b *ℤ y +ℤ pos 0 *ℤ pos 0 +ℤ z)
    two a b x y z = simp spread (omega (arith, ints))

no_height : (e x y z w : ℤ) → z ≡ pos 0 → w ≡ pos 0 → pos 0 *ℤ x +ℤ pos 0 *ℤ y +ℤ e *ℤ z +ℤ w ≡ pos 0
no_height e x y z w p q = (λ i. pos 0 *ℤ x +ℤ pos 0 *ℤ y +ℤ e *ℤ p i +ℤ q i) ∙ none
  where
    none : pos 0 *ℤ x +ℤ pos 0 *ℤ y +ℤ e *ℤ pos 0 +ℤ pos 0 ≡ pos 0
    none = omega (arith, ints)

pub block_form_product : (m n : PlanarMotion) (b c : Motion) → IsBlockForm m b → IsBlockForm n c → IsBlockForm (planar_followed_by m n) (followed_by b c)
unfolding plus dot
block_form_product m n b c h k =
    let moved : (plus (image c.matrix b.translation) c.translation) ≡ plus (image (block_matrix n) b.translation) c.translation =
    ap (λ (a : Matrix). plus (image a b.translation) c.translation) k.matrix in
    record {
      matrix = (λ i. product (k.matrix i) (h.matrix i)) ∙ block_products m n;
      x = doubled_entry n.matrix.first.x n.matrix.first.y m.translation.x m.translation.y n.translation.x b.translation.x b.translation.y c.translation.x h.x h.y k.x b.translation.z h.z
          ∙ ap (λ (v : Vector). pos 2 *ℤ v.x) (sym moved);
      y = doubled_entry n.matrix.second.x n.matrix.second.y m.translation.x m.translation.y n.translation.y b.translation.x b.translation.y c.translation.y h.x h.y k.y b.translation.z h.z
          ∙ ap (λ (v : Vector). pos 2 *ℤ v.y) (sym moved);
      z = ap (λ (v : Vector). v.z) moved ∙ no_height (sign_value n.side) b.translation.x b.translation.y b.translation.z c.translation.z h.z k.z;
    }
