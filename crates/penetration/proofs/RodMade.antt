-- A rod from the list of its near members.
use Rattle.std.proofs.Common.{◌≡◌, ◌↔◌, ℕ, ◌<◌, List, [], length, map, sym, subst, ◌∙◌}
use Rattle.std.specs.Prelude.{All, IfSome, IsNone}
use Rattle.std.proofs.lemmas.List.{get_or-map, length-map}
use Rattle.std.proofs.lemmas.Simd.{map-map}
use Rattle.symmetry.specs.Motions.{Motion, identity}
use Rattle.symmetry.specs.Groups.{SameModulo}
use Rattle.symmetry.specs.Lists.{motion_at, IsListOf}
use Rattle.motions.specs.declared.motion.Motion3.{Motion3}
use Rattle.motions.specs.declared.rod.RodMotion.{RodMotion}
use Rattle.motions.specs.RodMotions.{rod_of}
use Rattle.motions.specs.Views.{motion_of, parts}
use Rattle.fractions.specs.declared.part.Part.{Part}
use Rattle.closure.proofs.OwnLattice.{own_group}
use Rattle.closure.specs.declared.group.Group.{Group}
use Rattle.closure.specs.Groups.{group_listing}
use Rattle.recognition.specs.RodOrder.{Change, IsBounded, IsFirst}
use Rattle.recognition.specs.RodTypes.{HasChange, change_of}
use Rattle.penetration.specs.declared.frame.RodFrame.{RodFrame}
use Rattle.penetration.specs.declared.rod.Rod.{Rod}
use Rattle.penetration.specs.DirectionView.{direction_of}
use Rattle.penetration.specs.Lines.{InLineStabiliser}
use Rattle.penetration.specs.RodFrameView.{basis_of_rod, IsRodMadeFor}
use Rattle.penetration.specs.RodFrames.{AreRodOperations}
use Rattle.penetration.specs.RodHomes.{IsAtRodHome, IsNear, rod_home, rod_home_of}
use Rattle.penetration.specs.RodSections.{AreSections, counted}
use Rattle.penetration.specs.RodView.{IsRodOf}
use Rattle.penetration.proofs.MadeRodFrames.{made_rod_frame}
use Rattle.penetration.proofs.RodFound.{found_of}
use Rattle.penetration.proofs.RodLists.{home_lists_along, homes_list, near_lists_along}

-- what holds of each motion that a list of the code's stands for
pub each_of : (P : Motion → Type 0) (ms : List Motion3) → ((k : ℕ) → k < length (map motion_of ms) → P (motion_at (map motion_of ms) k))
    → All (λ (m : Motion3). P (motion_of m)) ms
each_of P ms all k d h = subst P (get_or-map motion_of ms k d identity h) (all k (subst (λ (n : ℕ). k < n) (sym (length-map ms motion_of)) h))

pub all_of : (P : Motion → Type 0) (ms : List Motion3) → All (λ (m : Motion3). P (motion_of m)) ms → All P (map motion_of ms)
all_of P ms all k d h =
    let e : Motion3 = record { w = []; t = [] } in
    let within : k < length ms = subst (λ (n : ℕ). k < n) (length-map ms motion_of) h in
    subst P (sym (get_or-map motion_of ms k e d within)) (all k e within)

module _ (group : Group) (frame : RodFrame) (point : List Part) (made : IsRodMadeFor group frame) (near : List Motion3)
    (list : IsListOf (SameModulo (group_listing group)) (group_listing group).ops (IsNear (basis_of_rod frame) (parts point))
    (InLineStabiliser (group_listing group) (direction_of frame.direction) (counted (parts point))) (map motion_of near)) where
  pub made_rod : (section : List RodMotion) (rod : Rod)
      → ((rods : List Motion) → AreRodOperations (group_listing group) (direction_of frame.direction) rods
      → AreSections (direction_of frame.direction) (basis_of_rod frame) rods (counted (parts point)) (map motion_of near) (map rod_of section))
      → IfSome rod.found (λ r. IsFirst 75 (HasChange section) (change_of r))
      → (IsNone rod.found ↔ ((c : Change) → IsBounded 75 c → ¬ (HasChange section c)))
      → map motion_of rod.ops.items ≡ map (λ (m : Motion3). motion_of (rod_home_of (basis_of_rod frame) m)) near
      → rod.frame ≡ frame → rod.point ≡ point → IsRodOf group frame point rod
  made_rod section rod acts first none homes frame_is point_is =
      let g = group_listing group in
      let u = direction_of frame.direction in
      let f = basis_of_rod frame in
      let is_group = own_group group in
      let is_frame = made_rod_frame group frame made in
      let at = parts point in
      let same : map motion_of rod.ops.items ≡ map (rod_home f) (map motion_of near) = homes ∙ sym (map-map (rod_home f) motion_of near) in
      let ops : IsListOf (SameModulo g) g.ops (IsAtRodHome f) (InLineStabiliser g u (counted at)) (map motion_of rod.ops.items) =
      subst (IsListOf (SameModulo g) g.ops (IsAtRodHome f) (InLineStabiliser g u (counted at))) (sym same)
      (homes_list g u f is_group frame.direction.coprime is_frame at (map motion_of near) list) in
      record {
        frame_is = frame_is;
        point_is = point_is;
        told = record {
          ops = ops;
          all = home_lists_along g u f is_group frame.direction.coprime is_frame at (map motion_of rod.ops.items) ops;
          found = found_of g u f is_group frame.direction.coprime is_frame at (map motion_of near) section
              (near_lists_along g u f is_group frame.direction.coprime is_frame at (map motion_of near) list) acts rod.found first none;
        };
      }
