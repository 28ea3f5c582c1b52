-- Lists of the motions that map a line to itself.
use Rattle.std.specs.Prelude.{◌≡◌, ℕ, ◌<◌, ℤ, pos, ◌≤ℤ◌, ◌<ℤ◌, List, length, slice_index_or}
use Rattle.symmetry.specs.Groups.{Listing}
use Rattle.symmetry.specs.Lists.{IsFirstPlace}
use Rattle.motions.specs.PlaneMatrices.{Pair, minus2, plus2}
use Rattle.plane_motions.specs.PlaneMotions.{PlaneMotion, plane_identity}
use Rattle.line_frames.specs.Lines.{IsInPlaneLattice, times2}
use Rattle.line_scans.specs.Lines.{IsPlaneMember, IsSameInPlane, KeepsLines}

-- the motion at a place of a list
abbrev pub plane_at : List PlaneMotion → ℕ → PlaneMotion
plane_at ms i = slice_index_or ms i plane_identity

-- exactly one place of the list has a motion with this property
pub record ExactlyOne (ms : List PlaneMotion) (P : PlaneMotion → Type 0) : Type 0 where
  pub place : ℕ
  pub within : place < length ms
  pub has : P (plane_at ms place)
  pub only : (k : ℕ) → k < length ms → P (plane_at ms k) → k ≡ place

-- one matrix, and translations that differ by a whole multiple of a
pub record DiffersAlong (a : Pair) (m n : PlaneMotion) : Type 0 where
  pub matrix : m.matrix ≡ n.matrix
  pub times : ℤ
  pub translation : minus2 m.translation n.translation ≡ times2 times a

-- at home: the translation is x a + k tau with 0 <= x < 1 and rational k
pub record IsAtLineHome (a tau : Pair) (m : PlaneMotion) : Type 0 where
  pub over : ℤ
  pub positive : pos 1 ≤ℤ over
  pub x : ℤ
  pub k : ℤ
  pub is : plus2 (times2 x a) (times2 k tau) ≡ times2 over m.translation
  pub from : pos 0 ≤ℤ x
  pub below : x <ℤ over

-- m stands before n in the order of the listed operations with which they are the same modulo L2
pub record ComesBefore (g : Listing) (m n : PlaneMotion) : Type 0 where
  pub p : ℕ
  pub q : ℕ
  pub first_of_m : IsFirstPlace g.ops (IsSameInPlane g m) p
  pub first_of_n : IsFirstPlace g.ops (IsSameInPlane g n) q
  pub before : p < q

-- the list has exactly the motions of the set, once each modulo whole multiples of a, at home and in the order of the
-- listed operations
pub record IsLineList (g : Listing) (a tau : Pair) (S : PlaneMotion → Type 0) (ms : List PlaneMotion) : Type 0 where
  pub listed : (k : ℕ) → k < length ms → S (plane_at ms k) × IsAtLineHome a tau (plane_at ms k)
  pub once : (m : PlaneMotion) → S m → ExactlyOne ms (DiffersAlong a m)
  pub ordered : (j k : ℕ) → j < k → k < length ms → ComesBefore g (plane_at ms j) (plane_at ms k)

-- one matrix, and translations that differ by a member of L2
pub record SameInPlane (g : Listing) (m n : PlaneMotion) : Type 0 where
  pub matrix : m.matrix ≡ n.matrix
  pub translation : IsInPlaneLattice g (minus2 m.translation n.translation)

-- the scanning operations: the members that keep the orientation, each once modulo L2
pub record AreLineScanning (g : Listing) (r : Pair) (ms : List PlaneMotion) : Type 0 where
  pub listed : (k : ℕ) → k < length ms → IsPlaneMember g (plane_at ms k) × KeepsLines r (plane_at ms k)
  pub once : (m : PlaneMotion) → IsPlaneMember g m → KeepsLines r m → ExactlyOne ms (SameInPlane g m)
