-- Planes and orientations that are the same to the crystal.
use Rattle.std.specs.Prelude.{◌≡◌, ◌↔◌, ℕ, ℤ, pos, ◌<◌, ◌≤◌, List, length, slice_index_or, All, AllPairs, Any}
use Rattle.fractions.specs.Fraction.{SameFraction}
use Rattle.symmetry.specs.Vectors.{Vector}
use Rattle.symmetry.specs.Motions.{Motion}
use Rattle.symmetry.specs.Planes.{Height, IsHeight, MapsPlane}
use Rattle.symmetry.specs.Groups.{Listing, IsMember}
use Rattle.symmetry.specs.Frames.{IsSpecial}
use Rattle.symmetry.specs.Scans.{IsInPeriod}

-- two heights are in one orbit: some member takes every point of the one plane to a point of the other
abbrev pub AreInOneOrbit : Listing → Vector → Height → Height → Type 0
AreInOneOrbit g r s t = (m : Motion) × IsMember g m × MapsPlane r s t m

-- the height at a place of a list
abbrev pub height_at : List Height → ℕ → Height
height_at heights i = slice_index_or heights i (record { num = pos 0; den = pos 1 })

-- the number at a place of a list
abbrev pub number_at : List ℕ → ℕ → ℕ
number_at numbers i = slice_index_or numbers i 0

-- the numbers of the orbits of heights: equal exactly where two heights are in one orbit, from 1 in the order of first appearance
pub record AreOrbitNumbers (g : Listing) (r : Vector) (heights : List Height) (numbers : List ℕ) : Type 0 where
  pub count : length numbers ≡ length heights
  pub equal : (i j : ℕ) → i < length heights → j < length heights
      → (number_at numbers i ≡ number_at numbers j) ↔ AreInOneOrbit g r (height_at heights i) (height_at heights j)
  pub from_one : (i : ℕ) → i < length heights → 1 ≤ number_at numbers i
  pub in_order : (i n : ℕ) → i < length heights → 1 ≤ n → n < number_at numbers i → (j : ℕ) × (j < i) × (number_at numbers j ≡ n)

-- the heights from 0 to below d in the orbit of s, each once
pub record ListsOrbit (g : Listing) (r : Vector) (d : ℤ) (s : Height) (heights : List Height) : Type 0 where
  pub each : All (λ t. IsInPeriod d t × AreInOneOrbit g r s t) heights
  pub apart : AllPairs (λ t u. ¬ SameFraction t u) heights
  pub whole : (t : Height) → IsInPeriod d t → AreInOneOrbit g r s t → Any (SameFraction t) heights

-- n is the number of heights from 0 to below d in the orbit of each general height
abbrev pub IsPlaneCount : Listing → Vector → ℤ → ℕ → Type 0
IsPlaneCount g r d n = (s : Height) → IsHeight s → ¬ IsSpecial g r s → (heights : List Height) × ListsOrbit g r d s heights × (length heights ≡ n)
