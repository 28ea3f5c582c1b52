-- The vectors that the code looks for.
use Rattle.std.specs.Prelude.{◌≡◌, ◌≢◌, ℤ, pos, ◌-ℤ◌, ◌*ℤ◌, ◌≤ℤ◌, ◌<ℤ◌, Contains, if◌then◌else◌, List}
use Rattle.std.specs.Ordering.{int_eq}
use Rattle.fractions.specs.declared.part.TheConstants.{UNIT}
use Rattle.motions.specs.declared.miller.TheConstants.{INDEX}
use Rattle.fractions.specs.declared.ratio.Ratio.{Ratio}
use Rattle.symmetry.specs.Vectors.{Vector, dot, image, multiple, plus}
use Rattle.symmetry.specs.Motions.{Motion}
use Rattle.symmetry.specs.Groups.{Listing, IsInLattice}
use Rattle.symmetry.specs.Frames.{KeepsOrientation, sign_at}
use Rattle.plane_lattice.specs.Scanning.{IsPointOf}

-- n (k,-h), a vector along the lines
abbrev pub along_lines : Vector → ℤ → Vector
along_lines r n = record { x = n *ℤ r.y; y = n *ℤ (pos 0 -ℤ r.x); z = pos 0 }

-- the sign e for which e (k,-h) has a positive first entry other than 0
pub data IsSense (r : Vector) (e : ℤ) : Type 0 where
  across_y : pos 0 <ℤ (e *ℤ r.y) → IsSense r e
  along_y : r.y ≡ pos 0 → pos 0 <ℤ (e *ℤ (pos 0 -ℤ r.x)) → IsSense r e

-- the least n from 1 on for which n (k,-h) is in L
pub record IsRepeat (g : Listing) (r : Vector) (n : ℤ) : Type 0 where
  pub from : pos 1 ≤ℤ n
  pub most : n ≤ℤ UNIT
  pub inside : IsInLattice g (along_lines r n)
  pub least : (m : ℤ) → pos 1 ≤ℤ m → m <ℤ n → ¬ IsInLattice g (along_lines r m)

-- the first coordinate in which (k,-h) is not 0
abbrev pub coordinate : Vector → Vector → ℤ
coordinate r v = (if int_eq r.y (pos 0) then v.y else v.x)

-- a vector of L in the plane at the height d
pub record IsAt (g : Listing) (r : Vector) (d : ℤ) (v : Vector) : Type 0 where
  pub inside : IsInLattice g v
  pub flat : v.z ≡ pos 0
  pub gives : dot r v ≡ d

-- a vector of the plane at the height d, with this coordinate
pub record IsPointAt (r : Vector) (t d : ℤ) (v : Vector) : Type 0 where
  pub flat : v.z ≡ pos 0
  pub gives : dot r v ≡ d
  pub at : coordinate r v ≡ t

-- a vector of L along the lines, which points forward
pub record IsForwardAlong (g : Listing) (r a : Vector) : Type 0 where
  pub at : IsAt g r (pos 0) a
  pub from : pos 1 ≤ℤ coordinate r a
  pub most : coordinate r a ≤ℤ (UNIT *ℤ INDEX)

-- one that is reduced along a
pub record IsReducedAt (g : Listing) (r a : Vector) (d : ℤ) (v : Vector) : Type 0 where
  pub at : IsAt g r d v
  pub from : pos 0 ≤ℤ coordinate r v
  pub below : coordinate r v <ℤ coordinate r a

-- tau leads to the first line above, and is reduced along a
pub record IsFirstAbove (g : Listing) (r a tau : Vector) : Type 0 where
  pub reduced : IsReducedAt g r a (dot r tau) tau
  pub from : pos 1 ≤ℤ dot r tau
  pub most : dot r tau ≤ℤ UNIT
  pub least : (d : ℤ) (t : Vector) → pos 1 ≤ℤ d → d <ℤ dot r tau → ¬ IsAt g r d t

-- e W tau for an operation of the list that keeps the orientation
pub record IsUp (r tau : Vector) (ops : List Motion) (up : Vector) : Type 0 where
  pub op : Motion
  pub listed : Contains ops op
  pub keeps : KeepsOrientation r op
  pub is : up ≡ multiple (sign_at r op) (image op.matrix tau)

-- such a vector other than tau; or tau, where there is none
pub data IsOtherUp (r tau : Vector) (ops : List Motion) (up : Vector) : Type 0 where
  other : IsUp r tau ops up → up ≢ tau → IsOtherUp r tau ops up
  same : up ≡ tau → ((v : Vector) → IsUp r tau ops v → v ≡ tau) → IsOtherUp r tau ops up

-- the mean of tau and that vector
pub record IsMeanUp (r tau : Vector) (ops : List Motion) (c : List Ratio) : Type 0 where
  pub up : Vector
  pub is_up : IsOtherUp r tau ops up
  pub mean : IsPointOf (record { at = plus tau up; over = pos 2 *ℤ UNIT }) c
