-- The residues of a lattice, as a list.
use Rattle.std.specs.Prelude.{◌≡◌, ◌↔◌, All, AllPairs, Contains, List, [], ◌∷◌, ◌++◌, map}
use Rattle.symmetry.specs.Vectors.{Vector, plus}
use Rattle.symmetry.specs.Groups.{Listing, IsInLattice}
use Rattle.closure.specs.Residues.{residue}

-- the listed vectors are the residues of the lattice, each once
pub record AreResiduesOf (g : Listing) (rs : List Vector) : Type 0 where
  pub reduced : All (λ r. residue r ≡ r) rs
  pub apart : AllPairs (λ v w. ¬ (v ≡ w)) rs
  pub same : (v : Vector) → Contains rs (residue v) ↔ IsInLattice g v

-- one more centring vector
abbrev pub with_centring : Listing → Vector → Listing
with_centring g v = record { ops = g.ops; centrings = g.centrings ++ v ∷ [] }

-- the residues of a list of vectors, each with the step added
abbrev pub coset : Vector → List Vector → List Vector
coset step rs = map (λ r. residue (plus r step)) rs
