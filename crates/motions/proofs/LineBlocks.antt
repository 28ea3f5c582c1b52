-- Products of rod motions and of frieze motions, as motions of space.
use Rattle.std.proofs.Common.{◌≡◌, ℤ, pos, ◌+ℤ◌, ◌*ℤ◌, sym, ◌∙◌, arith}
use Rattle.std.proofs.lemmas.Int.{ints}
use Rattle.symmetry.specs.Vectors.{dot, multiple, plus}
use Rattle.symmetry.specs.Motions.{followed_by}
use Rattle.symmetry.proofs.VectorLaws.{vector_path}
use Rattle.symmetry.proofs.MatrixLaws.{matrix_path}
use Rattle.symmetry.proofs.MotionLaws.{motion_path}
use Rattle.motions.specs.Laws.SignLaws.{sign_value-sign_product}
use Rattle.motions.specs.Signs.{sign_value}
use Rattle.motions.specs.PlaneMatrices.{origin2}
use Rattle.motions.specs.Layers.{PlanarMotion}
use Rattle.motions.specs.RodMotions.{RodOperation, rod_block, rod_followed_by}
use Rattle.motions.specs.FriezeMotions.{FriezeOperation, frieze_block, frieze_followed_by}
use Rattle.motions.proofs.Blocks.{block_products}

-- ---- rods

-- its matrix is that of a motion of a layer
abbrev across_axis : RodOperation → PlanarMotion
across_axis m = record { matrix = m.matrix; side = m.along; translation = origin2 }

pub rod_block_product : (m n : RodOperation) → followed_by (rod_block m) (rod_block n) ≡ rod_block (rod_followed_by m n)
unfolding plus dot
rod_block_product m n =
    motion_path (block_products (across_axis m) (across_axis n))
    (vector_path (none n.matrix.first.x n.matrix.first.y m.translation) (none n.matrix.second.x n.matrix.second.y m.translation)
    (along (sign_value n.along) m.translation n.translation))
  where
    none : (a b t : ℤ) → a *ℤ pos 0 +ℤ b *ℤ pos 0 +ℤ pos 0 *ℤ t +ℤ pos 0 ≡ pos 0
    none a b t = omega (arith, ints)

    along : (e t u : ℤ) → pos 0 *ℤ pos 0 +ℤ pos 0 *ℤ pos 0 +ℤ e *ℤ t +ℤ u ≡ e *ℤ t +ℤ u
    along e t u = omega (arith, ints)

-- ---- friezes

pub frieze_block_product : (m n : FriezeOperation) → followed_by (frieze_block m) (frieze_block n) ≡ frieze_block (frieze_followed_by m n)
unfolding plus dot multiple
frieze_block_product m n =
    motion_path
    (matrix_path
    (vector_path (first_of (sign_value n.along) (sign_value m.along) ∙ sym (sign_value-sign_product n.along m.along)) (omega (arith, ints)) (omega (arith, ints)))
    (vector_path (omega (arith, ints)) (second_of (sign_value n.across) (sign_value m.across) ∙ sym (sign_value-sign_product n.across m.across)) (omega (arith, ints)))
    (vector_path (omega (arith, ints)) (omega (arith, ints)) (omega (arith, ints))))
    (vector_path (along (sign_value n.along) m.translation n.translation) (omega (arith, ints)) (omega (arith, ints)))
  where
    first_of : (d e : ℤ) → d *ℤ e +ℤ pos 0 *ℤ pos 0 +ℤ pos 0 *ℤ pos 0 ≡ d *ℤ e
    first_of d e = omega (arith, ints)

    second_of : (d e : ℤ) → pos 0 *ℤ pos 0 +ℤ d *ℤ e +ℤ pos 0 *ℤ pos 0 ≡ d *ℤ e
    second_of d e = omega (arith, ints)

    along : (e t u : ℤ) → e *ℤ t +ℤ pos 0 *ℤ pos 0 +ℤ pos 0 *ℤ pos 0 +ℤ u ≡ e *ℤ t +ℤ u
    along e t u = omega (arith, ints)
