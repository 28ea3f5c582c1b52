-- Each operation is passed over or gives its member.
use Rattle.std.proofs.Common.{ap, ◌∙◌, sym, subst, arith}
use Rattle.std.proofs.lemmas.List.{take_all}
use Rattle.std.proofs.lemmas.List.Elements.{All-push}
use Rattle.std.specs.Prelude.{All}
use Rattle.symmetry.specs.Groups.{IsMember, SameModulo}
use Rattle.motions.specs.ListedSizes.{IsSmallWithin}
use Rattle.motions.specs.Views.{motion_of, parts}
use Rattle.motions.specs.declared.motion.Motion3.{Motion3}
use Rattle.closure.specs.Groups.{group_listing}
use Rattle.scanning.proofs.ChosenLists.{ChosenFrom, none_yet, passed_more, taken_more}
use Rattle.penetration.specs.DirectionView.{direction_of}
use Rattle.penetration.specs.Lines.{InLineStabiliser}
use Rattle.penetration.specs.RodFrameView.{basis_of_rod}
use Rattle.penetration.specs.RodHomes.{IsNear, IsNearSmall}
use Rattle.penetration.specs.RodSections.{counted}
use Rattle.penetration.proofs.members.members_among.Goals as goal
use Rattle.penetration.proofs.members.members_among.Goals.{in-Some+in_ok-push, in_default}
use Rattle.quotient.proofs.Items.{All-item_at}

pub loop-m-init : goal.loop-m-init
loop-m-init c = record {
  chosen = none_yet (SameModulo (group_listing c.args.group.now)) (IsNear (basis_of_rod c.args.frame.now) (parts c.args.point.now))
      (InLineStabiliser (group_listing c.args.group.now) (direction_of c.args.frame.now.direction) (counted (parts c.args.point.now))) _ c.new-members.ensures.items;
  small = subst (All (λ (m : Motion3). IsNearSmall (motion_of m))) (sym c.new-members.ensures.items) (λ k d h. absurd (omega arith));
}

pub member-requires-clause-motion : goal.member-requires-clause-motion
member-requires-clause-motion c = All-item_at motion_of c.args.ops.now (IsSmallWithin 50) c.loop-m.m-index _ c.requires.small c.loop-m-test.true

pub member-requires-clause-member : goal.member-requires-clause-member
member-requires-clause-member c = All-item_at motion_of c.args.ops.now (IsMember (group_listing c.args.group.now)) c.loop-m.m-index _ c.requires.members c.loop-m-test.true

pub loop-m-preserved : goal.loop-m-preserved
loop-m-preserved c =
    elim c.match-member.branch [
      | in-Some+in_ok-push w ↦
          let is = ap (λ v. v.items) w.members-is ∙ w.in_ok-push.ensures.items in
          record {
            chosen = taken_more _ _ _ c.args.ops.now c.loop-m.m-index _ c.loop-m.members.items _ w.in-Some.member is c.loop-m-test.true c.loop-m.invariant.chosen w.in-Some.ensures.choice;
            small = subst (All (λ (m : Motion3). IsNearSmall (motion_of m))) (sym is)
                (All-push (λ (m : Motion3). IsNearSmall (motion_of m)) c.loop-m.members.items w.in-Some.member c.loop-m.invariant.small w.in-Some.ensures.small);
          }
      | in_default w ↦
          let is = ap (λ v. v.items) w.members-is in
          record {
            chosen = passed_more _ _ _ c.args.ops.now c.loop-m.m-index _ c.loop-m.members.items _ is c.loop-m-test.true c.loop-m.invariant.chosen w.in_default.ensures.choice;
            small = subst (All (λ (m : Motion3). IsNearSmall (motion_of m))) (sym is) c.loop-m.invariant.small;
          }
    ]

pub returns-clause-chosen : goal.returns-clause-chosen
returns-clause-chosen c =
    subst (λ ms. ChosenFrom (SameModulo (group_listing c.args.group.now)) (IsNear (basis_of_rod c.args.frame.now) (parts c.args.point.now))
    (InLineStabiliser (group_listing c.args.group.now) (direction_of c.args.frame.now.direction) (counted (parts c.args.point.now))) ms c.loop-m.members.items)
    (take_all c.loop-m.m-index c.args.ops.now c.loop-m-test.false) c.loop-m.invariant.chosen
