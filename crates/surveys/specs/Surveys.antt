-- Surveys: one orientation of planes of each class of equivalent ones.
use Rattle.std.specs.Prelude.{◌≡◌, ◌⊎◌, ℕ, ℤ, ◌<ℤ◌, List, length, All, AllPairs, Any, Contains}
use Rattle.symmetry.specs.Vectors.{Vector, opposite, row_times}
use Rattle.symmetry.specs.Motions.{Motion}
use Rattle.symmetry.specs.Planes.{Height, IsCoprime}
use Rattle.symmetry.specs.Sizes.{IsVectorWithin}
use Rattle.symmetry.specs.Groups.{Listing}
use Rattle.symmetry.specs.Frames.{IsPeriod, IsSpecial}
use Rattle.symmetry.specs.Scans.{IsInPeriod}

-- s is the row or the opposite of it
abbrev pub IsUpToSign : Vector → Vector → Type 0
IsUpToSign row s = (s ≡ row) ⊎ (s ≡ opposite row)

-- s is (hkl) W or -(hkl) W of (hkl) = r, for a listed W
abbrev pub AreEquivalent : Listing → Vector → Vector → Type 0
AreEquivalent g r s = (m : Motion) × Contains g.ops m × IsUpToSign (row_times r m.matrix) s

-- coprime, with indices at most n in size
pub record IsWithinSurvey (n : ℕ) (r : Vector) : Type 0 where
  pub coprime : IsCoprime r
  pub size : IsVectorWithin n r

-- r is lexicographically greater than s
abbrev pub IsGreater : Vector → Vector → Type 0
IsGreater r s = (s.x <ℤ r.x) ⊎ ((r.x ≡ s.x) × ((s.y <ℤ r.y) ⊎ ((r.y ≡ s.y) × (s.z <ℤ r.z))))

-- within the survey, and no greater triple within it is equivalent to it
pub record IsRepresentative (g : Listing) (n : ℕ) (r : Vector) : Type 0 where
  pub within : IsWithinSurvey n r
  pub greatest : (s : Vector) → IsWithinSurvey n s → AreEquivalent g r s → ¬ IsGreater s r

-- the list has exactly the members of a set, each once
pub record ListsSet {A : Type 0} (P : A → Type 0) (xs : List A) : Type 0 where
  pub each : All P xs
  pub apart : AllPairs (λ x y. ¬ (x ≡ y)) xs
  pub whole : (x : A) → P x → Contains xs x

-- how many members a set has
pub record IsCountOf {A : Type 0} (P : A → Type 0) (n : ℕ) : Type 0 where
  pub members : List A
  pub are : ListsSet P members
  pub count : length members ≡ n

-- how many triples are equivalent to r
abbrev pub IsImageCount : Listing → Vector → ℕ → Type 0
IsImageCount g r n = IsCountOf (AreEquivalent g r) n

-- how many special heights there are from 0 to below d
abbrev pub IsSpecialCount : Listing → Vector → ℤ → ℕ → Type 0
IsSpecialCount g r d n = IsCountOf (λ (s : Height). IsInPeriod d s × IsSpecial g r s) n

-- an orientation, with two numbers
pub record SurveyedPlane : Type 0 where
  pub plane : Vector
  pub images : ℕ
  pub special : ℕ

-- they are how many triples are equivalent to it, and how many special heights it has from 0 to below its period
pub record HasCounts (g : Listing) (p : SurveyedPlane) : Type 0 where
  pub images : IsImageCount g p.plane p.images
  pub period : ℤ
  pub is_period : IsPeriod g p.plane period
  pub special : IsSpecialCount g p.plane period p.special

-- the orientations are exactly the representatives, the greatest first, each with its counts
pub record IsSurvey (g : Listing) (n : ℕ) (list : List SurveyedPlane) : Type 0 where
  pub each : All (λ (p : SurveyedPlane). IsRepresentative g n p.plane) list
  pub whole : (r : Vector) → IsRepresentative g n r → Any (λ (p : SurveyedPlane). p.plane ≡ r) list
  pub falling : AllPairs (λ (p q : SurveyedPlane). IsGreater p.plane q.plane) list
  pub counts : All (HasCounts g) list
