-- Lattices with too many residues.
use Rattle.std.specs.Prelude.{◌<◌, All, AllPairs, List, [], length}
use Rattle.symmetry.specs.Vectors.{Vector, minus}
use Rattle.symmetry.specs.Groups.{Listing, IsInLattice}
use Rattle.closure.specs.Residues.{IsWhole}

-- what the vectors list: no operations, and these as centring vectors
abbrev pub centrings_alone : List Vector → Listing
centrings_alone vectors = record { ops = []; centrings = vectors }

-- more than 64 members of the lattice, of which no two differ by whole edges
pub record IsTooFine (g : Listing) : Type 0 where
  pub members : List Vector
  pub many : 64 < length members
  pub inside : All (IsInLattice g) members
  pub apart : AllPairs (λ v w. ¬ IsWhole (minus v w)) members
