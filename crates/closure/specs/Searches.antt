-- What the search for the matrices of generated members keeps, and why it fails.
use Rattle.std.specs.Prelude.{◌≡◌, ◌<◌, ◌≤◌, List, ◌++◌, length, map, All, AllPairs, Contains}
use Rattle.symmetry.specs.Vectors.{Vector, image, minus}
use Rattle.symmetry.specs.Motions.{Motion, followed_by, identity}
use Rattle.symmetry.specs.Groups.{Listing, IsInLattice, SameModulo}
use Rattle.closure.specs.declared.generated_error.GeneratedError.{GeneratedError}
use Rattle.closure.specs.declared.generated_error.GeneratedError.TheVariants.{TooMany, NoInverse, TooLarge, TooFine, NoMemory}
use Rattle.closure.specs.declared.lattice_fault.LatticeFault.{LatticeFault}
use Rattle.closure.specs.declared.lattice_fault.LatticeFault.TheVariants.{TooFine as LatticeTooFine, NoMemory as LatticeNoMemory}
use Rattle.fractions.specs.declared.part.Part.{Part}
use Rattle.motions.specs.Views.{parts}
use Rattle.closure.specs.Residues.{residue, IsResidue}
use Rattle.closure.specs.Fineness.{centrings_alone}
use Rattle.closure.specs.Spans.{AreResiduesOf}
use Rattle.closure.specs.Generated.{IsGenerated, IsGeneratedMatrix, IsTooLarge, GeneratesTooFine}
use Rattle.closure.specs.ClosedLists.{HasMatrixOf}

-- members of G with matrices of M, one for each of their matrices, the identity among them
pub record AreFound (g : Listing) (list : List Motion) : Type 0 where
  pub first : Contains list identity
  pub inside : All (IsGenerated g) list
  pub matrices : All (λ m. IsGeneratedMatrix g m.matrix) list
  pub once : AllPairs (λ m n. ¬ (m.matrix ≡ n.matrix)) list

-- the new list goes on from the old one
pub record GoesOn (old new : List Motion) : Type 0 where
  pub rest : List Motion
  pub is : new ≡ old ++ rest

-- the list has the matrix of m followed by each listed operation
abbrev pub HasNext : Listing → List Motion → Motion → Type 0
HasNext g list m = (k : Motion) → Contains g.ops k → HasMatrixOf list (followed_by m k)

-- why the search for matrices fails; want of memory has no cause
abbrev pub IsSearchFault : Listing → GeneratedError → Type 0
IsSearchFault g (TooMany n) = ⊥
IsSearchFault g (NoInverse i) = ⊥
IsSearchFault g TooLarge = IsTooLarge g
IsSearchFault g TooFine = ⊥
IsSearchFault g NoMemory = Unit {0}

-- residues that are those of the lattice that they make
abbrev pub IsSpan : List Vector → Type 0
IsSpan rs = AreResiduesOf (centrings_alone rs) rs

-- the code's list of residues: at least one and not too many
pub record IsStore (rs : List (List Part)) : Type 0 where
  pub reduced : All IsResidue rs
  pub some : 0 < length rs
  pub few : length rs ≤ 64
  pub span : IsSpan (map parts rs)

-- what the one list makes the other makes too
abbrev pub IsMoreThan : List Vector → List Vector → Type 0
IsMoreThan old new = (v : Vector) → IsInLattice (centrings_alone old) v → IsInLattice (centrings_alone new) v

-- why there is no generated lattice
abbrev pub IsGeneratedLatticeFault : Listing → LatticeFault → Type 0
IsGeneratedLatticeFault g LatticeTooFine = GeneratesTooFine g
IsGeneratedLatticeFault g LatticeNoMemory = Unit {0}

-- v is the residue of what p differs by from the motion of the list with its matrix
pub record IsDifference (list : List Motion) (p : Motion) (v : List Part) : Type 0 where
  pub reduced : IsResidue v
  pub of : Motion
  pub listed : Contains list of
  pub matrix : p.matrix ≡ of.matrix
  pub is : parts v ≡ residue (minus p.translation of.translation)

-- some motion of the list is the same as p modulo the lattice that the residues make
abbrev pub HasSame : List Motion → List Vector → Motion → Type 0
HasSame list rs p = (n : Motion) × Contains list n × SameModulo (centrings_alone rs) p n

-- v is the residue of where m takes a listed residue, and it is not listed
pub record IsMoved (rs : List Vector) (m : Motion) (v : List Part) : Type 0 where
  pub reduced : IsResidue v
  pub outside : ¬ Contains rs (residue (parts v))
  pub from : Vector
  pub listed : Contains rs from
  pub is : parts v ≡ residue (image m.matrix from)

-- the matrix of m takes each listed residue to one with a listed residue
abbrev pub KeepsResidues : List Vector → Motion → Type 0
KeepsResidues rs m = All (λ r. Contains rs (residue (image m.matrix r))) rs
