-- The group of flat motions of the code is a plane group.
use Rattle.std.proofs.Common.{◌≡◌, pos, List, map}
use Rattle.std.specs.Prelude.{All}
use Rattle.std.proofs.lemmas.List.Elements.{All-map}
use Rattle.fractions.specs.declared.part.Part.{Part}
use Rattle.motions.specs.Views.{motion_of, parts}
use Rattle.motions.specs.declared.motion.Motion3.{Motion3}
use Rattle.symmetry.specs.Vectors.{Vector}
use Rattle.symmetry.specs.Groups.{Listing}
use Rattle.closure.specs.Groups.{IsGroupOf, group_listing}
use Rattle.closure.specs.declared.group.Group.{Group}
use Rattle.plane_motions.specs.PlaneMotions.{IsFlat}
use Rattle.plane_groups.specs.PlaneGroups.{IsFlatGroup}
use Rattle.plane_groups.proofs.FlatGroups.{group_flat, listing_flat}

pub code_listing_flat : (ms : List Motion3) (vs : List (List Part)) (group : Group) → All (λ m. IsFlat (motion_of m)) ms
    → All (λ v. (parts v).z ≡ pos 0) vs
    → IsGroupOf (record { ops = map motion_of ms; centrings = map parts vs }) group → IsFlatGroup (group_listing group)
code_listing_flat ms vs group flat level of =
    let g : Listing = record { ops = map motion_of ms; centrings = map parts vs } in
    group_flat g group (listing_flat g (record { operations = All-map IsFlat motion_of ms flat; centrings = All-map (λ (v : Vector). v.z ≡ pos 0) parts vs level })) of
