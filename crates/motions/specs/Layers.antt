-- Motions of a layer, how they multiply, and their block form in space.
use Rattle.std.specs.Prelude.{◌≡◌, ℤ, pos, ◌+ℤ◌, ◌*ℤ◌, ◌^◌, ◌⊎◌, Bool, ◌&&◌}
use Rattle.symmetry.specs.Vectors.{Matrix}
use Rattle.symmetry.specs.Motions.{Motion}
use Rattle.motions.specs.declared.motion.Sign.{Sign}
use Rattle.motions.specs.declared.motion.Sign.TheVariants.{Plus}
use Rattle.motions.specs.declared.layer.LayerMotion.{LayerMotion}
use Rattle.motions.specs.Signs.{same_sign, sign_product, sign_value}
use Rattle.motions.specs.PlaneMatrices.{Pair, Matrix2, image2, origin2, plus2, product2, same_matrix2, same_pair, unit2}
use Rattle.motions.specs.PlaneSizes.{IsMatrix2Within, IsPairWithin}
use Rattle.motions.specs.PlaneViews.{matrix2_of, pair_of}

-- (A, e, t): the matrix A and the sign e, and two whole numbers t of half parts, of which a cell edge has 2 UNIT
pub record PlanarMotion : Type 0 where
  pub matrix : Matrix2
  pub side : Sign
  pub translation : Pair

-- the motion that a LayerMotion is
abbrev pub planar_of : LayerMotion → PlanarMotion
planar_of m = record { matrix = matrix2_of m.a; side = m.e; translation = pair_of m.t }

-- first (A, e, t), then (B, f, u): the motion (B A, f e, B t + u)
abbrev pub planar_followed_by : PlanarMotion → PlanarMotion → PlanarMotion
planar_followed_by first next = record {
  matrix = product2 next.matrix first.matrix;
  side = sign_product next.side first.side;
  translation = plus2 (image2 next.matrix first.translation) next.translation;
}

-- the motion that moves nothing
abbrev pub planar_identity : PlanarMotion
planar_identity = record { matrix = unit2; side = Plus; translation = origin2 }

-- the translation by a vector of the plane
abbrev pub planar_translation : Pair → PlanarMotion
planar_translation t = record { matrix = unit2; side = Plus; translation = t }

-- a small motion: matrix entries at most 500 in size, and translations at most 2^40 half parts
pub record IsPlanarSmall (m : PlanarMotion) : Type 0 where
  pub matrix : IsMatrix2Within 500 m.matrix
  pub translation : IsPairWithin (2 ^ 40) m.translation

-- whether two motions are equal
abbrev pub same_planar : PlanarMotion → PlanarMotion → Bool
same_planar m n = same_matrix2 m.matrix n.matrix && same_sign m.side n.side && same_pair m.translation n.translation

-- the matrix in space: A in the plane, and e along the third axis
abbrev pub block_matrix : PlanarMotion → Matrix
block_matrix m = record {
  first = record { x = m.matrix.first.x; y = m.matrix.first.y; z = pos 0 };
  second = record { x = m.matrix.second.x; y = m.matrix.second.y; z = pos 0 };
  third = record { x = pos 0; y = pos 0; z = sign_value m.side };
}

-- a motion of space is the block form of a motion of a layer: that motion's matrix and sign, its translation with two half
-- parts for a part, and none along the third axis
pub record IsBlockForm (m : PlanarMotion) (block : Motion) : Type 0 where
  pub matrix : block.matrix ≡ block_matrix m
  pub x : m.translation.x ≡ pos 2 *ℤ block.translation.x
  pub y : m.translation.y ≡ pos 2 *ℤ block.translation.y
  pub z : block.translation.z ≡ pos 0

-- an odd number
abbrev pub IsOdd : ℤ → Type 0
IsOdd n = (k : ℤ) × (n ≡ pos 2 *ℤ k +ℤ pos 1)

-- an entry of the translation is no whole number of parts
abbrev pub HasHalfPart : PlanarMotion → Type 0
HasHalfPart m = IsOdd m.translation.x ⊎ IsOdd m.translation.y
