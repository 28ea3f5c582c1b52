-- The near members, what they do, and their homes.
use Rattle.std.proofs.Common.{◌↔◌, ◌^◌, List, map, refl, sym, ap, subst, ◌∙◌}
use Rattle.std.specs.Prelude.{All, IfSome, IsNone}
use Rattle.symmetry.specs.Motions.{Motion}
use Rattle.symmetry.specs.Sizes.{IsVectorWithin}
use Rattle.motions.specs.declared.motion.Motion3.{Motion3}
use Rattle.motions.specs.declared.rod.RodMotion.{RodMotion}
use Rattle.motions.specs.RodMotions.{rod_of}
use Rattle.motions.specs.Views.{motion_of, parts}
use Rattle.closure.specs.Groups.{group_listing}
use Rattle.recognition.specs.RodOrder.{Change, IsBounded, IsFirst}
use Rattle.recognition.specs.RodTypes.{HasChange, change_of}
use Rattle.penetration.specs.DirectionView.{direction_of}
use Rattle.penetration.specs.Lines.{InLineStabiliser}
use Rattle.penetration.specs.RodFrameView.{basis_of_rod}
use Rattle.penetration.specs.RodHomes.{IsNear, IsNearSmall, rod_home_of}
use Rattle.penetration.specs.RodSections.{AreSections, counted}
use Rattle.penetration.proofs.RodMade.{all_of, each_of, made_rod}
use Rattle.penetration.proofs.at.rod_at.Goals as goal

pub sections-requires-clause-in_stabiliser : goal.sections-requires-clause-in_stabiliser
sections-requires-clause-in_stabiliser c =
    let S = InLineStabiliser (group_listing c.args.group.now) (direction_of c.args.frame.now.direction) (counted (parts c.args.point)) in
    subst (All (λ (m : Motion3). S (motion_of m))) (sym c.deref.ensures.value) (each_of S c.in_ok-near.near.items (λ k h. (c.in_ok-near.ensures.list.listed k h).0))

pub sections-requires-clause-near : goal.sections-requires-clause-near
sections-requires-clause-near c =
    let near = IsNear (basis_of_rod c.args.frame.now) (parts c.args.point) in
    subst (All (λ (m : Motion3). near (motion_of m))) (sym c.deref.ensures.value) (each_of near c.in_ok-near.near.items (λ k h. (c.in_ok-near.ensures.list.listed k h).1))

pub sections-requires-clause-small : goal.sections-requires-clause-small
sections-requires-clause-small c = subst (All (λ (m : Motion3). IsNearSmall (motion_of m))) (sym c.deref.ensures.value) c.in_ok-near.ensures.small

pub homes-requires : goal.homes-requires
homes-requires c =
    let P : Motion → Type 0 = λ m. IsVectorWithin (2 ^ 23) m.translation in
    all_of P c.deref-3.result.now
    (subst (All (λ (m : Motion3). P (motion_of m))) (sym c.deref-3.ensures.value) (λ k d h. (c.in_ok-near.ensures.small k d h).translation))

pub returns : goal.returns
returns c =
    let q = c.args.frame.now in
    let near = c.in_ok-near.near.items in
    let section = c.in_ok-section.section.items in
    made_rod c.args.group.now q c.args.point c.requires.made near c.in_ok-near.ensures.list section _
    (λ rods are.
    subst (λ (ms : List Motion3). AreSections (direction_of q.direction) (basis_of_rod q) rods (counted (parts c.args.point)) (map motion_of ms) (map rod_of section))
    c.deref.ensures.value (c.in_ok-section.ensures.acts rods are))
    (subst (λ (s : List RodMotion). IfSome c.in_ok-found.found (λ r. IsFirst 75 (HasChange s) (change_of r))) c.deref-2.ensures.value c.in_ok-found.ensures.first)
    (subst (λ (s : List RodMotion). IsNone c.in_ok-found.found ↔ ((d : Change) → IsBounded 75 d → ¬ (HasChange s d))) c.deref-2.ensures.value c.in_ok-found.ensures.none)
    (c.in_ok-ops.ensures ∙ ap (map (λ (m : Motion3). motion_of (rod_home_of (basis_of_rod q) m))) c.deref-3.ensures.value)
    refl refl
