-- What it is to list a set of motions.
use Rattle.std.specs.Prelude.{◌≡◌, ℕ, ◌<◌, List, [], ◌∷◌, length, slice_index_or, Option, Some, None}
use Rattle.symmetry.specs.Motions.{Motion, identity}
use Rattle.symmetry.specs.Vectors.{Vector}
use Rattle.symmetry.specs.Groups.{Listing, IsMember, SameModulo}
use Rattle.symmetry.specs.Frames.{Basis, DiffersInPlane, IsAtHome, KeepsOrientation}

-- the motion at a place of a list
abbrev pub motion_at : List Motion → ℕ → Motion
motion_at ms i = slice_index_or ms i identity

-- exactly one place of the list has a motion with this property
pub record ExactlyOne (ms : List Motion) (P : Motion → Type 0) : Type 0 where
  pub place : ℕ
  pub within : place < length ms
  pub has : P (motion_at ms place)
  pub only : (k : ℕ) → k < length ms → P (motion_at ms k) → k ≡ place

-- p is the place of the first motion of the list with this property
pub record IsFirstPlace (ms : List Motion) (P : Motion → Type 0) (p : ℕ) : Type 0 where
  pub within : p < length ms
  pub has : P (motion_at ms p)
  pub none_before : (q : ℕ) → q < p → ¬ P (motion_at ms q)

-- m stands before n in the order of the listed operations: the first that is the same as m comes before the first that is the same as n
pub record ComesBefore (Same : Motion → Motion → Type 0) (ops : List Motion) (m n : Motion) : Type 0 where
  pub p : ℕ
  pub q : ℕ
  pub first_of_m : IsFirstPlace ops (Same m) p
  pub first_of_n : IsFirstPlace ops (Same n) q
  pub before : p < q

-- the list of a set of motions: its members at home, each once, in the order of the listed operations
pub record IsListOf (Same : Motion → Motion → Type 0) (ops : List Motion) (IsHome S : Motion → Type 0) (ms : List Motion) : Type 0 where
  pub listed : (k : ℕ) → k < length ms → S (motion_at ms k) × IsHome (motion_at ms k)
  pub once : (m : Motion) → S m → IsHome m → ExactlyOne ms (λ n. m ≡ n)
  pub ordered : (j k : ℕ) → j < k → k < length ms → ComesBefore Same ops (motion_at ms j) (motion_at ms k)

-- the same for a set of motions of the listed group, in a frame
abbrev pub IsHomeList : Listing → Basis → (Motion → Type 0) → List Motion → Type 0
IsHomeList g f S ms = IsListOf (SameModulo g) g.ops (IsAtHome f) S ms

-- the list lists the set modulo the plane lattice
pub record ListsInPlane (g : Listing) (r : Vector) (S : Motion → Type 0) (ms : List Motion) : Type 0 where
  pub listed : (k : ℕ) → k < length ms → S (motion_at ms k)
  pub once : (m : Motion) → S m → ExactlyOne ms (DiffersInPlane g r m)

-- the motion differs by the plane lattice from exactly one motion of the set that is at home
pub record HasOneAtHome (g : Listing) (r : Vector) (IsHome S : Motion → Type 0) (m : Motion) : Type 0 where
  pub companion : Motion
  pub in_set : S companion
  pub is_home : IsHome companion
  pub differs : DiffersInPlane g r m companion
  pub only : (n : Motion) → S n → IsHome n → DiffersInPlane g r m n → companion ≡ n

-- the scanning operations: the listed operations that keep the orientation, each once modulo L
pub record AreScanning (g : Listing) (r : Vector) (ms : List Motion) : Type 0 where
  pub listed : (k : ℕ) → k < length ms → IsMember g (motion_at ms k) × KeepsOrientation r (motion_at ms k)
  pub once : (m : Motion) → IsMember g m → KeepsOrientation r m → ExactlyOne ms (SameModulo g m)

-- no two operations of the list are the same
abbrev pub AreDistinct : (Motion → Motion → Type 0) → List Motion → Type 0
AreDistinct Same ops = (p q : ℕ) → p < q → q < length ops → ¬ Same (motion_at ops p) (motion_at ops q)

-- what the set has at home of the coset of a listed operation: nothing, or one member alone
abbrev pub IsChoice : (Motion → Motion → Type 0) → (Motion → Type 0) → (Motion → Type 0) → Motion → Option Motion → Type 0
IsChoice Same IsHome S m None = (n : Motion) → S n → IsHome n → Same n m → ⊥
IsChoice Same IsHome S m (Some n) = S n × IsHome n × Same n m × ((k : Motion) → S k → IsHome k → Same k m → k ≡ n)

-- the second list has, operation by operation of the first, what the set has at home of its coset
pub data AreChosen (Same : Motion → Motion → Type 0) (IsHome S : Motion → Type 0) : List Motion → List Motion → Type 0 where
  no_more : AreChosen Same IsHome S [] []
  passed : (m : Motion) (ms out : List Motion) → IsChoice Same IsHome S m None → AreChosen Same IsHome S ms out → AreChosen Same IsHome S (m ∷ ms) out
  taken : (m n : Motion) (ms out : List Motion) → IsChoice Same IsHome S m (Some n) → AreChosen Same IsHome S ms out
      → AreChosen Same IsHome S (m ∷ ms) (n ∷ out)

-- each member of the set is the same as a listed operation
abbrev pub AreCovered : (Motion → Motion → Type 0) → List Motion → (Motion → Type 0) → Type 0
AreCovered Same ops S = (n : Motion) → S n → (p : ℕ) × (p < length ops) × Same n (motion_at ops p)

-- sameness goes both ways and on
pub record IsSameness (Same : Motion → Motion → Type 0) : Type 0 where
  pub back : (m n : Motion) → Same m n → Same n m
  pub on : (k m n : Motion) → Same k m → Same m n → Same k n
