-- The group that listed operations generate, with the translations by cell edges and centring vectors.
use Rattle.std.specs.Prelude.{◌≡◌, ◌↔◌, ◌⊎◌, ◌<◌, ℤ, false, List, [], ◌∷◌, length, All, AllPairs, Contains}
use Rattle.quotient.specs.Kind.{Kind}
use Rattle.quotient.specs.Closure.{IsProduct}
use Rattle.quotient.specs.Order.{Form, IsInOrder}
use Rattle.symmetry.specs.Vectors.{Matrix, Vector, minus, opposite, product, unit_matrix}
use Rattle.symmetry.specs.Motions.{followed_by, identity, Motion, translation}
use Rattle.symmetry.specs.Groups.{edges, Listing, IsInLattice}
use Rattle.symmetry.specs.Sizes.{IsMatrixWithin}
use Rattle.closure.specs.Residues.{IsWhole, residue, is_before}
use Rattle.closure.specs.Fineness.{centrings_alone}
use Rattle.closure.specs.GroupErrors.{space_modulo}

-- motions of space, of which the translations by sums and differences of cell edges and listed centring vectors are the shifts
abbrev pub generating_kind : Listing → Kind
generating_kind g = space_modulo (centrings_alone g.centrings)

-- G: the products of all finite lists of listed motions, their inverses and these translations
abbrev pub IsGenerated : Listing → Motion → Type 0
IsGenerated g = IsProduct (generating_kind g) g.ops

-- a cell edge or a listed centring vector
abbrev pub IsEdgeOrCentring : Listing → Vector → Type 0
IsEdgeOrCentring g v = Contains edges v ⊎ Contains g.centrings v

-- motions of space, of which the translations by these alone and by their opposites are the shifts
abbrev pub single_kind : Listing → Kind
single_kind g = record {
  Motion = Motion;
  then = followed_by;
  one = identity;
  IsShift = λ m. (v : Vector) × IsEdgeOrCentring g v × ((m ≡ translation v) ⊎ (m ≡ translation (opposite v)));
}

-- L: the vectors of the translations in G
abbrev pub InGeneratedLattice : Listing → Vector → Type 0
InGeneratedLattice g v = IsGenerated g (translation v)

-- M: the products of all finite lists of listed matrices
pub data IsGeneratedMatrix (g : Listing) : Matrix → Type 0 where
  no_matrix : IsGeneratedMatrix g unit_matrix
  one_more : (w : Matrix) (m : Motion) → IsGeneratedMatrix g w → Contains g.ops m → IsGeneratedMatrix g (product m.matrix w)

-- ---- the derived list

-- the entries of a motion's matrix, row by row
abbrev pub entries_of : Motion → List ℤ
entries_of m =
    m.matrix.first.x ∷ m.matrix.first.y ∷ m.matrix.first.z
    ∷ m.matrix.second.x ∷ m.matrix.second.y ∷ m.matrix.second.z
    ∷ m.matrix.third.x ∷ m.matrix.third.y ∷ m.matrix.third.z
    ∷ []

-- the vector has entries from 0 to below UNIT, and none with such entries that differs from it by a member of L comes before it
pub record IsLeast (g : Listing) (v : Vector) : Type 0 where
  pub reduced : residue v ≡ v
  pub first : (u : Vector) → InGeneratedLattice g (minus u v) → residue u ≡ u → is_before u v ≡ false

abbrev pub least_form : (g : Listing) → Form (generating_kind g)
least_form g = record { entries = entries_of; IsHome = λ m. IsLeast g m.translation }

-- one member of G for each matrix of M, the identity first, the others with the greatest matrix first, each with the least translation
pub record IsDerived (g : Listing) (list : List Motion) : Type 0 where
  pub inside : All (IsGenerated g) list
  pub matrices : (m : Motion) → Contains list m → IsGeneratedMatrix g m.matrix
  pub covers : (w : Matrix) → IsGeneratedMatrix g w → (m : Motion) × Contains list m × (m.matrix ≡ w)
  pub once : AllPairs (λ m n. ¬ (m.matrix ≡ n.matrix)) list
  pub order : IsInOrder (generating_kind g) (least_form g) list

-- ---- limits

-- M has more than 48 matrices, or one with an entry above 50 in size
pub data IsTooLarge (g : Listing) : Type 0 where
  many : (ws : List Matrix) → 48 < length ws → All (IsGeneratedMatrix g) ws → AllPairs (λ v w. ¬ (v ≡ w)) ws → IsTooLarge g
  large : (w : Matrix) → IsGeneratedMatrix g w → ¬ IsMatrixWithin 50 w → IsTooLarge g

-- L has more than 64 members of which no two differ by whole edges
pub record GeneratesTooFine (g : Listing) : Type 0 where
  pub members : List Vector
  pub many : 64 < length members
  pub inside : All (InGeneratedLattice g) members
  pub apart : AllPairs (λ v w. ¬ IsWhole (minus v w)) members

-- the matrix has an inverse of whole numbers
abbrev pub IsInvertible : Matrix → Type 0
IsInvertible w = (v : Matrix) × (product v w ≡ unit_matrix) × (product w v ≡ unit_matrix)

-- each listed matrix has one
abbrev pub AllInvertible : Listing → Type 0
AllInvertible g = (m : Motion) → Contains g.ops m → IsInvertible m.matrix

-- the listing of what is generated: the derived list, with L
pub record IsDerivedListing (g h : Listing) : Type 0 where
  pub ops : IsDerived g h.ops
  pub lattice : (v : Vector) → InGeneratedLattice g v ↔ IsInLattice h v
