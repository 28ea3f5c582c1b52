-- Products of motions of the plane, as motions of space.
use Rattle.std.proofs.Common.{◌≡◌, ℤ, pos, ◌+ℤ◌, ◌*ℤ◌, ap, ◌∙◌, arith}
use Rattle.std.proofs.lemmas.Int.{ints}
use Rattle.symmetry.specs.Vectors.{dot, plus}
use Rattle.symmetry.specs.Motions.{followed_by}
use Rattle.symmetry.proofs.VectorLaws.{vector_path}
use Rattle.symmetry.proofs.MotionLaws.{motion_path}
use Rattle.motions.specs.Layers.{PlanarMotion, planar_followed_by, planar_identity}
use Rattle.motions.proofs.Blocks.{block_products}
use Rattle.plane_motions.specs.PlaneMotions.{PlaneMotion, in_layer, plane_block, plane_followed_by, plane_identity}

pub plane_block_product : (m n : PlaneMotion) → followed_by (plane_block m) (plane_block n) ≡ plane_block (plane_followed_by m n)
unfolding plus dot
plane_block_product m n =
    motion_path (block_products (in_layer m) (in_layer n))
    (vector_path (along n.matrix.first.x n.matrix.first.y m.translation.x m.translation.y n.translation.x) (along n.matrix.second.x n.matrix.second.y m.translation.x m.translation.y n.translation.y)
    (none m.translation.x m.translation.y))
  where
    along : (a b x y z : ℤ) → a *ℤ x +ℤ b *ℤ y +ℤ pos 0 *ℤ pos 0 +ℤ z ≡ a *ℤ x +ℤ b *ℤ y +ℤ z
    along a b x y z = omega (arith, ints)

    none : (x y : ℤ) → pos 0 *ℤ x +ℤ pos 0 *ℤ y +ℤ pos 1 *ℤ pos 0 +ℤ pos 0 ≡ pos 0
    none x y = omega (arith, ints)

-- a motion of the plane without an inverse in the layer has none in the plane
pub no_inverse : (m : PlaneMotion) (l : PlanarMotion) → l ≡ in_layer m → ((b : PlanarMotion) → ¬ (planar_followed_by l b ≡ planar_identity))
    → (b : PlaneMotion) → ¬ (plane_followed_by m b ≡ plane_identity)
no_inverse m l is none b e = none (in_layer b) (ap (λ k. planar_followed_by k (in_layer b)) is ∙ ap in_layer e)
