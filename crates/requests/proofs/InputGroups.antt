-- The Group of a listed text is that of each listing of its group.
use Rattle.std.proofs.Common.{true, false, ℕ, List, ◌⊎◌, subst, inl, inr}
use Rattle.symmetry.specs.Groups.{Listing}
use Rattle.closure.specs.Derived.{GeneratesWithinLimits}
use Rattle.closure.specs.Generated.{IsDerivedListing}
use Rattle.closure.specs.GroupErrors.{IsWithinLimits}
use Rattle.closure.specs.Groups.{group_listing, IsGroupOf}
use Rattle.closure.specs.declared.group.Group.{Group}
use Rattle.closure.proofs.DerivedListings.{derived_within}
use Rattle.closure.proofs.OneGroup.{group_of_derived}
use Rattle.triplets.specs.declared.notation.Notation.{Notation}
use Rattle.triplets.specs.Texts.{IsGroupText}
use Rattle.triplets.proofs.OneFault.{one_flag, one_listing}
use Rattle.requests.specs.declared.request.Format.TheVariants.{GroupText}
use Rattle.requests.specs.Inputs.{IsGeneratedBy, IsGroupOfInput, IsShort}

module _ (nt : Notation) (input : List ℕ) (group : Group) (short : IsShort (GroupText nt) input) where
  -- of a text that lists all operations
  pub group_listed : (g : Listing) → IsGroupText nt input false g → IsWithinLimits g → IsGroupOf g group → IsGroupOfInput (GroupText nt) input group
  group_listed g text within made = record {
    short = short;
    some = (g, record { is_listed = inl text; within = within; is_group = made.is_group });
    is_of = λ h lists. go h lists.is_listed;
  }
    where
      go : (h : Listing) → IsGroupText nt input false h ⊎ IsGeneratedBy nt input h → IsGroupOf h group
      go h (inl text') = subst (λ (l : Listing). IsGroupOf l group) (one_listing nt input false false g h text text') made
      go h (inr of) = let same = one_flag nt input false true g of.generators text of.is_text in absurd cc

  -- of a text that lists generators
  pub group_generated : (g : Listing) → IsGroupText nt input true g → GeneratesWithinLimits g → IsDerivedListing g (group_listing group) → IsGroupOfInput (GroupText nt) input group
  group_generated g text limits derived = record {
    short = short;
    some = (
      group_listing group,
      record {
        is_listed = inr (record { generators = g; is_text = text; limits = limits; derived = derived });
        within = derived_within g (group_listing group) limits derived;
        is_group = let of = group_of_derived g (group_listing group) group limits.invertible derived derived in of.is_group;
      },
    );
    is_of = λ h lists. go h lists.is_listed;
  }
    where
      go : (h : Listing) → IsGroupText nt input false h ⊎ IsGeneratedBy nt input h → IsGroupOf h group
      go h (inl text') = let same = one_flag nt input false true h g text' text in absurd cc
      go h (inr of) =
          group_of_derived g h group limits.invertible
          (subst (λ (l : Listing). IsDerivedListing l h) (one_listing nt input true true of.generators g of.is_text text) of.derived) derived
