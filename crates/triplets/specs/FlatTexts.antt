-- What a notation says of what is listed in it.
use Rattle.symmetry.specs.Groups.{Listing}
use Rattle.plane_motions.specs.PlaneMotions.{IsFlatListing}
use Rattle.triplets.specs.declared.notation.Notation.{Notation}
use Rattle.triplets.specs.declared.notation.Notation.TheVariants.{Triplets, Pairs}

-- pairs list what is flat
abbrev pub IsListedIn : Notation → Listing → Type 0
IsListedIn Triplets g = Unit {0}
IsListedIn Pairs g = IsFlatListing g
