-- Lines h x + k y = s of a plane group, which is a group of space whose operations leave the third axis as it is.
use Rattle.std.specs.Prelude.{◌≡◌, ◌≢◌, ◌⊎◌, ℤ, pos, ◌*ℤ◌, ◌≤ℤ◌, ◌<ℤ◌}
use Rattle.symmetry.specs.Vectors.{Vector}
use Rattle.symmetry.specs.Groups.{Listing, IsInLattice}
use Rattle.motions.specs.PlaneMatrices.{Pair, dot2, in_space}

-- the first two entries of a vector or a row
abbrev pub first_two : Vector → Pair
first_two v = record { x = v.x; y = v.y }

-- c v
abbrev pub times2 : ℤ → Pair → Pair
times2 c v = record { x = c *ℤ v.x; y = c *ℤ v.y }

-- the lattice L2 of the plane: the vectors of L with the third entry 0, without that entry
abbrev pub IsInPlaneLattice : Listing → Pair → Type 0
IsInPlaneLattice g v = IsInLattice g (in_space v)

-- the whole multiples of a are exactly the members v of L2 with (hk).v = 0
pub record IsAlong (g : Listing) (r a : Pair) : Type 0 where
  pub inside : (n : ℤ) → IsInPlaneLattice g (times2 n a)
  pub along : (n : ℤ) → dot2 r (times2 n a) ≡ pos 0
  pub only : (v : Pair) → IsInPlaneLattice g v → dot2 r v ≡ pos 0 → (n : ℤ) × (v ≡ times2 n a)

-- v comes before w in lexicographic order
abbrev pub IsBefore : Pair → Pair → Type 0
IsBefore v w = (v.x <ℤ w.x) ⊎ ((v.x ≡ w.x) × (v.y <ℤ w.y))

-- in the first coordinate in which a is not 0, v lies from 0 to below a
abbrev pub IsReducedAlong : Pair → Pair → Type 0
IsReducedAlong a v =
    ((a.x ≢ pos 0) × (pos 0 ≤ℤ v.x) × (v.x <ℤ a.x))
    ⊎ ((a.x ≡ pos 0) × (a.y ≢ pos 0) × (pos 0 ≤ℤ v.y) × (v.y <ℤ a.y))

-- the period d of lines: the least positive (hk).t over L2, in parts
pub record IsLinePeriod (g : Listing) (r : Pair) (d : ℤ) : Type 0 where
  pub positive : pos 0 <ℤ d
  pub taken : (t : Pair) × IsInPlaneLattice g t × (dot2 r t ≡ d)
  pub least : (t : Pair) → IsInPlaneLattice g t → pos 0 <ℤ dot2 r t → d ≤ℤ dot2 r t

-- the frame of the lines: a is the lexicographically greater of the two vectors that L2 repeats along them, tau leads
-- from one line to the next of the same kind and is reduced along a, and d is the period
pub record IsLineFrame (g : Listing) (r a tau : Pair) (d : ℤ) : Type 0 where
  pub along : IsAlong g r a
  pub greater : (b : Pair) → IsAlong g r b → (b ≡ a) ⊎ IsBefore b a
  pub period : IsLinePeriod g r d
  pub tau_in : IsInPlaneLattice g tau
  pub tau_gives : dot2 r tau ≡ d
  pub reduced : IsReducedAlong a tau
