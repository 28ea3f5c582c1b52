-- What is generated is one group: its listings are alike, and a Group with such a listing is the group of each of them.
use Rattle.std.proofs.Common.{◌≡◌, sym, subst, List}
use Rattle.quotient.specs.Lists.{AreFirst}
use Rattle.symmetry.specs.Motions.{Motion}
use Rattle.symmetry.specs.Groups.{Listing, SameModulo}
use Rattle.symmetry.specs.Lists.{ComesBefore}
use Rattle.symmetry.specs.Listings.{AreAlike}
use Rattle.symmetry.proofs.Alike.{same_to, same_from}
use Rattle.closure.specs.declared.group.Group.{Group}
use Rattle.closure.specs.Groups.{group_listing, IsGroupOf}
use Rattle.closure.specs.Generated.{AllInvertible, IsDerivedListing}
use Rattle.closure.proofs.DerivedListings.{derived_members, derived_group}
use Rattle.closure.proofs.Firsts.{AreFirst-by}
use Rattle.closure.proofs.OneDerived.{one_derived}
use Rattle.closure.proofs.OwnLattice.{own_listing}

module _ (g h h' : Listing) (invertible : AllInvertible g) (d : IsDerivedListing g h) (d' : IsDerivedListing g h') where
  one_list : h.ops ≡ h'.ops
  one_list = one_derived g h.ops h'.ops invertible d.ops d'.ops

  pub derived_alike : AreAlike h h'
  derived_alike = record {
    lattice = λ t. (λ is. (d'.lattice t).0 ((d.lattice t).1 is), λ is. (d.lattice t).0 ((d'.lattice t).1 is));
    members = λ m. (
      λ is. (derived_members g h' invertible d' m).0 ((derived_members g h invertible d m).1 is),
      λ is. (derived_members g h invertible d m).0 ((derived_members g h' invertible d' m).1 is),
    );
    order = λ m n. (
      subst (λ (ops : List Motion). ComesBefore (SameModulo h) ops m n) one_list,
      subst (λ (ops : List Motion). ComesBefore (SameModulo h) ops m n) (sym one_list),
    );
  }

pub group_of_derived : (g h : Listing) (group : Group) → AllInvertible g → IsDerivedListing g h → IsDerivedListing g (group_listing group)
    → IsGroupOf h group
group_of_derived g h group invertible d made = record {
  is_group = derived_group g h invertible d;
  alike = alike;
  firsts = subst (λ (ops : List Motion). AreFirst (SameModulo h) ops (group_listing group).ops) (sym (one_list g h (group_listing group) invertible d made)) own;
}
  where
    alike : AreAlike h (group_listing group)
    alike = derived_alike g h (group_listing group) invertible d made

    -- the operations of the Group are the first of themselves, modulo the lattice of h too
    own : AreFirst (SameModulo h) (group_listing group).ops (group_listing group).ops
    own = AreFirst-by (SameModulo (group_listing group)) (SameModulo h)
        (λ m n. (same_from h (group_listing group) alike m n, same_to h (group_listing group) alike m n))
        (group_listing group).ops (group_listing group).ops (own_listing group).firsts
