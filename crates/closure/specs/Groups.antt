-- The group that a Group is.
use Rattle.quotient.specs.Lists.{AreFirst}
use Rattle.symmetry.specs.Groups.{Listing, IsGroup, SameModulo}
use Rattle.symmetry.specs.Listings.{AreAlike}
use Rattle.closure.specs.declared.group.Group.{Group}
use Rattle.closure.specs.declared.lattice.Lattice.{Lattice}
use Rattle.closure.specs.Operations.{listing_with}

-- its lattice
abbrev pub lattice_of : Group → Lattice
lattice_of group = group.lattice

-- its operations, with the residues of its lattice as centring vectors
abbrev pub group_listing : Group → Listing
group_listing group = listing_with group.ops.items group.lattice

-- the Group is the group of what is listed: of the listed operations it keeps the first of each that are the same
pub record IsGroupOf (g : Listing) (group : Group) : Type 0 where
  pub is_group : IsGroup g
  pub alike : AreAlike g (group_listing group)
  pub firsts : AreFirst (SameModulo g) g.ops (group_listing group).ops
