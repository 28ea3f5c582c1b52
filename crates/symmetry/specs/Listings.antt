-- Listings of one group.
use Rattle.std.specs.Prelude.{◌↔◌}
use Rattle.symmetry.specs.Vectors.{Vector}
use Rattle.symmetry.specs.Motions.{Motion}
use Rattle.symmetry.specs.Groups.{Listing, IsInLattice, IsMember, SameModulo}
use Rattle.symmetry.specs.Lists.{ComesBefore}

-- one lattice, one group, and one order of its members
pub record AreAlike (g h : Listing) : Type 0 where
  pub lattice : (t : Vector) → IsInLattice g t ↔ IsInLattice h t
  pub members : (m : Motion) → IsMember g m ↔ IsMember h m
  pub order : (m n : Motion) → ComesBefore (SameModulo g) g.ops m n ↔ ComesBefore (SameModulo g) h.ops m n
