-- The period, the scanning operations, the frame with its vector c', and the special heights.
use Rattle.std.specs.Prelude.{◌≡◌, ◌⊎◌, ℤ, pos, ◌*ℤ◌, ◌≤ℤ◌, ◌<ℤ◌, Bool, ◌&&◌, if◌then◌else◌, List, [], ◌∷◌, length, Contains, negsuc}
use Rattle.std.specs.Ordering.{int_eq}
use Rattle.fractions.specs.declared.part.TheConstants.{UNIT}
use Rattle.symmetry.specs.Vectors.{Vector, origin, plus, minus, multiple, opposite, dot, cross, image, row_times}
use Rattle.symmetry.specs.Motions.{Motion, Point}
use Rattle.symmetry.specs.Planes.{Height}
use Rattle.symmetry.specs.Sizes.{IsVectorWithin}
use Rattle.symmetry.specs.Groups.{Listing, IsInLattice, InStabiliser, FixesEveryPlane}

-- the plane lattice: the members t of L with (hkl).t = 0
abbrev pub InPlaneLattice : Listing → Vector → Vector → Type 0
InPlaneLattice g r t = IsInLattice g t × (dot r t ≡ pos 0)

-- the period d: the least positive value of (hkl).t over t in L, in parts
pub record IsPeriod (g : Listing) (r : Vector) (d : ℤ) : Type 0 where
  pub positive : pos 0 <ℤ d
  pub taken : (t : Vector) × IsInLattice g t × (dot r t ≡ d)
  pub least : (t : Vector) → IsInLattice g t → pos 0 <ℤ dot r t → d ≤ℤ dot r t

-- a motion that keeps the orientation: (hkl) W = (hkl) or (hkl) W = -(hkl)
abbrev pub KeepsOrientation : Vector → Motion → Type 0
KeepsOrientation r m = (row_times r m.matrix ≡ r) ⊎ (row_times r m.matrix ≡ opposite r)

-- three vectors: a and b of the plane, and tau
pub record Basis : Type 0 where
  pub a : Vector
  pub b : Vector
  pub tau : Vector

-- x a + y b + z tau
abbrev pub combination : Basis → Vector → Vector
combination f c = plus (plus (multiple c.x f.a) (multiple c.y f.b)) (multiple c.z f.tau)

-- a, b and the normal of the planes are right-handed
abbrev pub IsRightHanded : Vector → Basis → Type 0
IsRightHanded r f = (c : ℤ) × (pos 0 <ℤ c) × (cross f.a f.b ≡ multiple c r)

-- a, b and tau are a frame of G and (hkl)
pub record IsFrame (g : Listing) (r : Vector) (f : Basis) : Type 0 where
  pub spans : (t : Vector) → IsInLattice g t → (c : Vector) × (combination f c ≡ t)
  pub once : (c c' : Vector) → combination f c ≡ combination f c' → c ≡ c'
  pub inside : (c : Vector) → IsInLattice g (combination f c)
  pub a_in_plane : dot r f.a ≡ pos 0
  pub b_in_plane : dot r f.b ≡ pos 0
  pub tau_above : pos 0 <ℤ dot r f.tau
  pub right_handed : IsRightHanded r f

-- a frame is skewed when a scanning operation takes a, b or tau to a combination with a coefficient above 500 in size
pub record IsSkewed (g : Listing) (r : Vector) (f : Basis) : Type 0 where
  pub op : Motion
  pub listed : Contains g.ops op
  pub scanning : KeepsOrientation r op
  pub coefficients : Vector
  pub of : (combination f coefficients ≡ image op.matrix f.a)
      ⊎ ((combination f coefficients ≡ image op.matrix f.b) ⊎ (combination f coefficients ≡ image op.matrix f.tau))
  pub large : ¬ (IsVectorWithin 500 coefficients)

-- whether two vectors are equal
abbrev pub same_vector : Vector → Vector → Bool
same_vector v w = int_eq v.x w.x && int_eq v.y w.y && int_eq v.z w.z

-- the sign e for which (hkl) W = e (hkl), at a motion that keeps the orientation
abbrev pub sign_at : Vector → Motion → ℤ
sign_at r m = (if same_vector (row_times r m.matrix) r then pos 1 else negsuc 0)

-- the sum of the vectors e W tau over a list of motions
abbrev pub total_up : Vector → Vector → List Motion → Vector
total_up r tau [] = origin
total_up r tau (m ∷ ms) = plus (multiple (sign_at r m) (image m.matrix tau)) (total_up r tau ms)

-- the vector c' over the scanning operations: the mean of e W tau
abbrev pub mean_of : Vector → Vector → List Motion → Point
mean_of r tau ops = record { at = total_up r tau ops; over = UNIT *ℤ pos (length ops) }

-- a height where some member maps the plane to itself that does not map every plane to itself
abbrev pub IsSpecial : Listing → Vector → Height → Type 0
IsSpecial g r s = (m : Motion) × InStabiliser g r s m × ¬ (FixesEveryPlane g r m)

-- translations that differ by a vector of the plane lattice, and one matrix
pub record DiffersInPlane (g : Listing) (r : Vector) (m n : Motion) : Type 0 where
  pub matrix : m.matrix ≡ n.matrix
  pub translation : InPlaneLattice g r (minus m.translation n.translation)

-- at home: the translation is x a + y b + k tau with 0 <= x < 1, 0 <= y < 1 and rational k
pub record IsAtHome (f : Basis) (m : Motion) : Type 0 where
  pub over : ℤ
  pub positive : pos 1 ≤ℤ over
  pub by : Vector
  pub is : combination f by ≡ multiple over m.translation
  pub x_from : pos 0 ≤ℤ by.x
  pub x_below : by.x <ℤ over
  pub y_from : pos 0 ≤ℤ by.y
  pub y_below : by.y <ℤ over
