-- The lattice that a Lattice is.
use Rattle.std.specs.Prelude.{◌≡◌, ◌↔◌, false, List, map, Contains}
use Rattle.std.specs.List.{best_of}
use Rattle.symmetry.specs.Vectors.{Vector, minus}
use Rattle.symmetry.specs.Groups.{Listing, IsInLattice}
use Rattle.motions.specs.declared.motion.Motion3.{Motion3}
use Rattle.motions.specs.Views.{parts, motion_of, array_of}
use Rattle.motions.specs.Translations.{IsTranslationBy}
use Rattle.closure.specs.declared.lattice.Lattice.{Lattice}
use Rattle.closure.specs.Residues.{residue, is_before}
use Rattle.closure.specs.Spans.{coset}

-- its residues, in order
abbrev pub residues_of : Lattice → List Vector
residues_of lattice = map parts lattice.residues.items

-- the residue of the vector is listed
abbrev pub InLattice : Lattice → Vector → Type 0
InLattice lattice v = Contains (residues_of lattice) (residue v)

-- the Lattice is the lattice of what is listed
abbrev pub IsLatticeOf : Listing → Lattice → Type 0
IsLatticeOf g lattice = (v : Vector) → InLattice lattice v ↔ IsInLattice g v

-- the motion is the translation by a vector of the lattice
abbrev pub IsLatticeShift : Lattice → Motion3 → Type 0
IsLatticeShift lattice m = IsTranslationBy (InLattice lattice) (motion_of m)

-- the first of the vectors, in lexicographic order, that are v and a residue, modulo whole edges
abbrev pub first_with : Vector → List Vector → Vector
first_with v rs = best_of is_before (residue v) (coset v rs)

-- the motion with the first translation of those that differ from its own by a vector of the lattice
abbrev pub lattice_home : Lattice → Motion3 → Motion3
lattice_home lattice m = record { w = m.w; t = array_of (first_with (parts m.t) (residues_of lattice)) }

-- w differs from v by a vector of the lattice, has entries from 0 to below UNIT, and no other such vector comes before it
pub record IsHome (lattice : Lattice) (v w : Vector) : Type 0 where
  pub same : InLattice lattice (minus w v)
  pub reduced : residue w ≡ w
  pub first : (u : Vector) → InLattice lattice (minus u v) → residue u ≡ u → is_before u w ≡ false
