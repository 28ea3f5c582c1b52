-- A slab and the plane in its middle have the same lists.
use Rattle.std.proofs.Common.{◌≡◌, ◌↔◌, List, subst}
use Rattle.symmetry.specs.Vectors.{Vector}
use Rattle.symmetry.specs.Motions.{Motion}
use Rattle.symmetry.specs.Planes.{Height, IsCoprime, IsHeight}
use Rattle.symmetry.specs.Groups.{InStabiliser, IsGroup, Listing, SameModulo}
use Rattle.symmetry.specs.Frames.{Basis, IsAtHome, IsFrame}
use Rattle.symmetry.specs.Lists.{IsListOf, ListsInPlane}
use Rattle.symmetry.proofs.HomeLaws.{has_one_at_home}
use Rattle.symmetry.proofs.ListLaws.{list_of_same_set, lists_in_plane}
use Rattle.symmetry.proofs.PlaneLattice.{differs_stabiliser}
use Rattle.slabs.specs.Slabs.{InSlabStabiliser, IsAtMost, half_sum}
use Rattle.slabs.proofs.SlabImages.{stabiliser_by_middle}

module _ (g : Listing) (r : Vector) (f : Basis) (low high : Height) (ms : List Motion) (group : IsGroup g) (coprime : IsCoprime r)
    (is_low : IsHeight low) (is_high : IsHeight high) (order : IsAtMost low high) where
  same_members : (m : Motion) → InSlabStabiliser g r low high m ↔ InStabiliser g r (half_sum low high) m
  same_members m = stabiliser_by_middle g r low high m group coprime is_low is_high order

  pub same_lists : IsListOf (SameModulo g) g.ops (IsAtHome f) (InSlabStabiliser g r low high) ms
      ↔ IsListOf (SameModulo g) g.ops (IsAtHome f) (InStabiliser g r (half_sum low high)) ms
  same_lists =
      list_of_same_set (SameModulo g) g.ops (IsAtHome f) (InSlabStabiliser g r low high) (InStabiliser g r (half_sum low high)) ms same_members

  -- the list of the plane at the middle, however that is written
  pub slab_list : (s : Height) → s ≡ half_sum low high
      → IsListOf (SameModulo g) g.ops (IsAtHome f) (InStabiliser g r s) ms
      → IsListOf (SameModulo g) g.ops (IsAtHome f) (InSlabStabiliser g r low high) ms
  slab_list s middle is =
      let L : Height → Type 0 = λ t. IsListOf (SameModulo g) g.ops (IsAtHome f) (InStabiliser g r t) ms in
      same_lists.1 (subst L middle is)

  pub lists_slab_in_plane : IsFrame g r f → IsListOf (SameModulo g) g.ops (IsAtHome f) (InSlabStabiliser g r low high) ms
      → ListsInPlane g r (InSlabStabiliser g r low high) ms
  lists_slab_in_plane frame is =
      let s = half_sum low high in
      let of_plane : ListsInPlane g r (InStabiliser g r s) ms =
      lists_in_plane (SameModulo g) g.ops (IsAtHome f) (InStabiliser g r s) ms g r
      (has_one_at_home g r f frame (InStabiliser g r s) (differs_stabiliser g r s)) (same_lists.0 is) in record {
        listed = λ k h. (same_members _).1 (of_plane.listed k h);
        once = λ m in_it. of_plane.once m ((same_members m).0 in_it);
      }
