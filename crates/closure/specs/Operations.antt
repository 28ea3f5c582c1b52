-- The operations of a group.
use Rattle.std.specs.Prelude.{AllPairs, IsTrue, List, map}
use Rattle.symmetry.specs.Motions.{Motion}
use Rattle.symmetry.specs.Vectors.{Vector}
use Rattle.symmetry.specs.Groups.{Listing, IsInLattice, SameModulo}
use Rattle.motions.specs.declared.motion.Motion3.{Motion3}
use Rattle.motions.specs.ListedSizes.{IsSmallWithin}
use Rattle.motions.specs.Views.{motion_of}
use Rattle.closure.specs.declared.lattice.Lattice.{Lattice}
use Rattle.closure.specs.Residues.{has_residue}
use Rattle.closure.specs.Lattices.{residues_of}

-- a small motion whose matrix entries are at most 50 in size
abbrev pub HasSmallEntries : Motion → Type 0
HasSmallEntries = IsSmallWithin 50

-- operations, with the residues of a lattice as centring vectors
abbrev pub listing_with : List Motion3 → Lattice → Listing
listing_with ops lattice = record { ops = map motion_of ops; centrings = residues_of lattice }

-- no two listed operations are the same modulo L
abbrev pub AreApart : Listing → Type 0
AreApart g = AllPairs (λ m n. ¬ SameModulo g m n) g.ops

-- the lattice holds the listed translations too, so that it is all of L
abbrev pub HoldsTranslations : Listing → Lattice → Type 0
HoldsTranslations g lattice = (v : Vector) → IsInLattice g v → IsTrue (has_residue (residues_of lattice) v)
