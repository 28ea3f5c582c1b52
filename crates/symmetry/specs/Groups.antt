-- The lattice and the group of listed motions, and the members that map a plane to itself.
use Rattle.std.specs.Prelude.{◌≡◌, pos, ◌⊎◌, List, [], ◌∷◌, Contains}
use Rattle.fractions.specs.declared.part.TheConstants.{UNIT}
use Rattle.symmetry.specs.Vectors.{image, Vector, origin, plus, minus, unit_matrix}
use Rattle.symmetry.specs.Motions.{Motion, followed_by, identity}
use Rattle.symmetry.specs.Planes.{Height, IsHeight, KeepsPlane, KeepsRow, TurnsRow}

-- what a group text lists
pub record Listing : Type 0 where
  pub ops : List Motion
  pub centrings : List Vector

-- the edge of the cell along the third axis
abbrev pub third_edge : Vector
third_edge = record { x = pos 0; y = pos 0; z = UNIT }

-- the three edges of the cell
abbrev pub edges : List Vector
edges =
    record { x = UNIT; y = pos 0; z = pos 0 }
    ∷ record { x = pos 0; y = UNIT; z = pos 0 }
    ∷ third_edge
    ∷ []

-- a vector that the lattice is made of: an edge, a centring vector, or a listed translation
abbrev pub Generates : Listing → Vector → Type 0
Generates g v =
    Contains edges v ⊎ (Contains g.centrings v ⊎ Contains g.ops (record { matrix = unit_matrix; translation = v }))

-- the lattice L: every vector that comes from 0 by adding and subtracting such vectors
pub data IsInLattice (g : Listing) : Vector → Type 0 where
  zero_vector : IsInLattice g origin
  added : (t v : Vector) → IsInLattice g t → Generates g v → IsInLattice g (plus t v)
  subtracted : (t v : Vector) → IsInLattice g t → Generates g v → IsInLattice g (minus t v)

-- one matrix, and vectors that differ by a member of L
pub record SameModulo (g : Listing) (m n : Motion) : Type 0 where
  pub matrix : m.matrix ≡ n.matrix
  pub translation : IsInLattice g (minus m.translation n.translation)

-- the group G: the motions that are the same as a listed one modulo L
pub record IsMember (g : Listing) (m : Motion) : Type 0 where
  pub of : Motion
  pub listed : Contains g.ops of
  pub same : SameModulo g m of

-- the listed operations are a group modulo L
pub record IsGroup (g : Listing) : Type 0 where
  pub has_identity : IsMember g identity
  pub products : (m n : Motion) → IsMember g m → IsMember g n → IsMember g (followed_by m n)
  pub inverses : (m : Motion) → IsMember g m
      → (n : Motion) × IsMember g n × (followed_by m n ≡ identity) × (followed_by n m ≡ identity)

-- what can be tested on the listed operations alone
pub record IsListedGroup (g : Listing) : Type 0 where
  pub has_identity : (n : Motion) × Contains g.ops n × SameModulo g n identity
  pub keeps_lattice : (m : Motion) → Contains g.ops m → (v : Vector) → Generates g v → IsInLattice g (image m.matrix v)
  pub products : (m n : Motion) → Contains g.ops m → Contains g.ops n
      → (k : Motion) × Contains g.ops k × SameModulo g (followed_by m n) k
  pub inverses : (m : Motion) → Contains g.ops m
      → (n : Motion) × Contains g.ops n × SameModulo g (followed_by m n) identity × SameModulo g (followed_by n m) identity

-- Stab(p/q): the members that map the plane of this height to itself
abbrev pub InStabiliser : Listing → Vector → Height → Motion → Type 0
InStabiliser g r s m = IsMember g m × KeepsPlane r s m

-- the members that map every plane of the orientation to itself
abbrev pub FixesEveryPlane : Listing → Vector → Motion → Type 0
FixesEveryPlane g r m = IsMember g m × ((s : Height) → IsHeight s → KeepsPlane r s m)

-- RowStab(p/q), the same as rows say it
abbrev pub InRowStabiliser : Listing → Vector → Height → Motion → Type 0
InRowStabiliser g r s m = IsMember g m × (KeepsRow r m ⊎ TurnsRow r s m)

-- the same as rows say it
abbrev pub FixesEveryPlaneByRow : Listing → Vector → Motion → Type 0
FixesEveryPlaneByRow g r m = IsMember g m × KeepsRow r m
