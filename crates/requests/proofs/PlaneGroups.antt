-- The Group of a text of pairs is a plane group.
use Rattle.symmetry.specs.Groups.{Listing}
use Rattle.closure.specs.Generated.{IsDerivedListing}
use Rattle.closure.specs.Groups.{group_listing, IsGroupOf}
use Rattle.closure.specs.declared.group.Group.{Group}
use Rattle.plane_groups.proofs.FlatGroups.{derived_flat, group_flat, listing_flat}
use Rattle.triplets.specs.declared.notation.Notation.{Notation}
use Rattle.triplets.specs.declared.notation.Notation.TheVariants.{Triplets, Pairs}
use Rattle.triplets.specs.FlatTexts.{IsListedIn}
use Rattle.requests.specs.declared.request.Format.TheVariants.{GroupText}
use Rattle.requests.specs.Inputs.{IsGroupIn}

-- of a text that lists all operations
pub made_in : (nt : Notation) (g : Listing) (group : Group) → IsListedIn nt g → IsGroupOf g group → IsGroupIn (GroupText nt) group
made_in Triplets g group flat made = tt
made_in Pairs g group flat made = group_flat g group (listing_flat g flat) made

-- of a text that lists generators
pub generated_in : (nt : Notation) (g : Listing) (group : Group) → IsListedIn nt g → IsDerivedListing g (group_listing group) → IsGroupIn (GroupText nt) group
generated_in Triplets g group flat derived = tt
generated_in Pairs g group flat derived = derived_flat g flat (group_listing group) derived
