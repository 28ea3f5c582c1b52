-- The list of a generated group as it is made: the identity, and the others, each at home, with falling matrices.
use Rattle.std.specs.Prelude.{◌≡◌, ◌≤◌, ◌<◌, ◌-◌, ℕ, List, ◌∷◌, length, slice_index_or, AllPairs, Contains}
use Rattle.quotient.specs.Order.{IsLexBelow}
use Rattle.symmetry.specs.Vectors.{unit_matrix}
use Rattle.symmetry.specs.Motions.{Motion, identity}
use Rattle.symmetry.specs.Groups.{Listing}
use Rattle.closure.specs.declared.generated_error.GeneratedError.{GeneratedError}
use Rattle.closure.specs.declared.generated_error.GeneratedError.TheVariants.{TooMany, NoInverse, TooLarge, TooFine, NoMemory}
use Rattle.closure.specs.declared.lattice.Lattice.{Lattice}
use Rattle.closure.specs.Lattices.{IsHome}
use Rattle.closure.specs.Generated.{entries_of, AllInvertible, IsInvertible, IsTooLarge, GeneratesTooFine}
use Rattle.closure.specs.ClosedLists.{HasMatrixOf}

-- n is a motion of the list that is no translation, with its translation at home
pub record IsOtherAtHome (lattice : Lattice) (list : List Motion) (n : Motion) : Type 0 where
  pub of : Motion
  pub listed : Contains list of
  pub other : ¬ (of.matrix ≡ unit_matrix)
  pub matrix : n.matrix ≡ of.matrix
  pub home : IsHome lattice of.translation n.translation

-- those of the list that are no translations, each at home and once
pub record AreOthersAtHome (lattice : Lattice) (list others : List Motion) : Type 0 where
  pub each : (n : Motion) → Contains others n → IsOtherAtHome lattice list n
  pub all : (m : Motion) → Contains list m → ¬ (m.matrix ≡ unit_matrix) → HasMatrixOf others m
  pub once : AllPairs (λ m n. ¬ (m.matrix ≡ n.matrix)) others

-- each matrix is lexicographically greater than those behind it
abbrev pub AreFalling : List Motion → Type 0
AreFalling list = AllPairs (λ m n. IsLexBelow (entries_of n) (entries_of m)) list

-- the identity, and these
pub record IsOrdered (lattice : Lattice) (list ops : List Motion) : Type 0 where
  pub others : List Motion
  pub at_home : AreOthersAtHome lattice list others
  pub falling : AreFalling others
  pub is : ops ≡ identity ∷ others

-- ---- why nothing is generated

-- i is the first position, counted from 1, of an operation whose matrix has no inverse
pub record IsFirstSingular (list : List Motion) (i : ℕ) : Type 0 where
  pub least : 1 ≤ i
  pub within : i ≤ length list
  pub lacks : ¬ IsInvertible (slice_index_or list (i - 1) identity).matrix
  pub before : (k : ℕ) → 1 ≤ k → k < i → IsInvertible (slice_index_or list (k - 1) identity).matrix

-- within the limits
pub record GeneratesWithinLimits (g : Listing) : Type 0 where
  pub few : length g.ops ≤ 192
  pub invertible : AllInvertible g
  pub not_large : ¬ IsTooLarge g
  pub fine : ¬ GeneratesTooFine g

-- why there is no generated Group; want of memory has no cause
abbrev pub IsGeneratedError : Listing → GeneratedError → Type 0
IsGeneratedError g (TooMany n) = (n ≡ length g.ops) × (192 < n)
IsGeneratedError g (NoInverse i) = (length g.ops ≤ 192) × IsFirstSingular g.ops i
IsGeneratedError g TooLarge = (length g.ops ≤ 192) × AllInvertible g × IsTooLarge g
IsGeneratedError g TooFine = (length g.ops ≤ 192) × AllInvertible g × (¬ IsTooLarge g) × GeneratesTooFine g
IsGeneratedError g NoMemory = Unit {0}
