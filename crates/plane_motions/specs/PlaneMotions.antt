-- Motions of the plane, how they multiply, and what they are in space.
use Rattle.std.specs.Prelude.{◌≡◌, pos, List, All}
use Rattle.fractions.specs.declared.part.Part.{Part}
use Rattle.symmetry.specs.Motions.{Motion}
use Rattle.symmetry.specs.Groups.{Listing}
use Rattle.motions.specs.declared.motion.Sign.TheVariants.{Plus}
use Rattle.motions.specs.Layers.{PlanarMotion}
use Rattle.motions.specs.PlaneMatrices.{Matrix2, Pair, image2, origin2, plus2, product2, unit2}
use Rattle.motions.specs.PlaneViews.{matrix2_of}
use Rattle.motions.specs.Views.{part_at}
use Rattle.plane_motions.specs.declared.plane_motion.Motion2.{Motion2}

-- (W, w): the matrix W, and the translation w in parts
pub record PlaneMotion : Type 0 where
  pub matrix : Matrix2
  pub translation : Pair

-- the two entries of an array of parts
abbrev pub parts2 : List Part → Pair
parts2 ps = record { x = part_at ps 0; y = part_at ps 1 }

-- the motion that a Motion2 is
abbrev pub plane_of : Motion2 → PlaneMotion
plane_of m = record { matrix = matrix2_of m.w; translation = parts2 m.t }

-- first (V, v), then (W, w): the motion (W V, W v + w)
abbrev pub plane_followed_by : PlaneMotion → PlaneMotion → PlaneMotion
plane_followed_by first next = record {
  matrix = product2 next.matrix first.matrix;
  translation = plus2 (image2 next.matrix first.translation) next.translation;
}

-- the motion that moves nothing
abbrev pub plane_identity : PlaneMotion
plane_identity = record { matrix = unit2; translation = origin2 }

-- the motion of a layer that keeps its sides, and what a motion of a layer does in its plane
abbrev pub in_layer : PlaneMotion → PlanarMotion
in_layer m = record { matrix = m.matrix; side = Plus; translation = m.translation }

abbrev pub in_plane : PlanarMotion → PlaneMotion
in_plane m = record { matrix = m.matrix; translation = m.translation }

-- the motion of space that leaves the third axis as it is
abbrev pub plane_block : PlaneMotion → Motion
plane_block m = record {
  matrix = record {
    first = record { x = m.matrix.first.x; y = m.matrix.first.y; z = pos 0 };
    second = record { x = m.matrix.second.x; y = m.matrix.second.y; z = pos 0 };
    third = record { x = pos 0; y = pos 0; z = pos 1 };
  };
  translation = record { x = m.translation.x; y = m.translation.y; z = pos 0 };
}

-- the third row and column of the matrix are those of the unit matrix, and the third translation is 0
pub record IsFlat (m : Motion) : Type 0 where
  pub row_x : m.matrix.third.x ≡ pos 0
  pub row_y : m.matrix.third.y ≡ pos 0
  pub row_z : m.matrix.third.z ≡ pos 1
  pub column_x : m.matrix.first.z ≡ pos 0
  pub column_y : m.matrix.second.z ≡ pos 0
  pub translation : m.translation.z ≡ pos 0

-- what is listed of a plane group: each operation is flat, and the third entry of each centring vector is 0
pub record IsFlatListing (g : Listing) : Type 0 where
  pub operations : All IsFlat g.ops
  pub centrings : All (λ v. v.z ≡ pos 0) g.centrings
