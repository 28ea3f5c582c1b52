-- Proofs that motions of the plane meet the laws of `Motion`: those of a layer that keep its sides do. They stand here
-- since an `impl` cites them.
use Rattle.std.proofs.Common.{◌≡◌, ◌↔◌, ◌^◌, IsTrue, ap}
use Rattle.quotient.specs.Kind.{IsMonoid}
use Rattle.motions.specs.Layers.{IsPlanarSmall, same_planar}
use Rattle.motions.specs.Laws.LayerLaws.{planar_followed_by_laws, planar_followed_by_within, same_planar-is}
use Rattle.motions.specs.PlaneSizes.{IsPairWithin}
use Rattle.plane_motions.specs.PlaneMotions.{PlaneMotion, in_layer, in_plane, plane_followed_by, plane_identity}

pub same_plane-is : (m n : PlaneMotion) → IsTrue (same_planar (in_layer m) (in_layer n)) ↔ (m ≡ n)
same_plane-is m n = (
  λ t. ap in_plane ((same_planar-is (in_layer m) (in_layer n)).0 t),
  λ e. (same_planar-is (in_layer m) (in_layer n)).1 (ap in_layer e),
)

pub plane_followed_by_laws : IsMonoid plane_followed_by plane_identity
plane_followed_by_laws = record {
  assoc = λ a b c. ap in_plane (planar_followed_by_laws.assoc (in_layer a) (in_layer b) (in_layer c));
  one_left = λ a. ap in_plane (planar_followed_by_laws.one_left (in_layer a));
  one_right = λ a. ap in_plane (planar_followed_by_laws.one_right (in_layer a));
}

pub plane_followed_by_within : (m n : PlaneMotion) → IsPlanarSmall (in_layer m) → IsPlanarSmall (in_layer n) → IsPairWithin (2 ^ 52) (plane_followed_by m n).translation
plane_followed_by_within m n = planar_followed_by_within (in_layer m) (in_layer n)
