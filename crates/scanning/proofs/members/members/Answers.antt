-- Each motion is passed over or gives its member.
use Rattle.std.proofs.Common.{ap, ◌∙◌, subst}
use Rattle.std.proofs.lemmas.List.{take_all}
use Rattle.symmetry.specs.Groups.{IsMember, SameModulo}
use Rattle.symmetry.specs.Frames.{IsAtHome}
use Rattle.motions.specs.Views.{row_of, motion_of}
use Rattle.plane_lattice.specs.FrameView.{basis_of_frame}
use Rattle.scanning.specs.Members.{InRows}
use Rattle.scanning.proofs.ChosenLists.{ChosenFrom, none_yet, passed_more, taken_more}
use Rattle.scanning.proofs.members.members.Goals as goal
use Rattle.scanning.proofs.members.members.Goals.{in-Some+in_ok-push, in_default}
use Rattle.quotient.proofs.Items.{All-item_at}

pub loop-m-init : goal.loop-m-init
loop-m-init c = λ g frame all. none_yet (SameModulo g) (IsAtHome (basis_of_frame c.args.frame.now)) (InRows g (row_of c.args.frame.now.plane) c.args.turned) _ c.new-members.ensures.items

pub loop-m-preserved : goal.loop-m-preserved
loop-m-preserved c = λ g frame all.
    let member = All-item_at motion_of c.args.homes.now (IsMember g) c.loop-m.m-index _ all c.loop-m-test.true in
    elim c.match-member.branch [
      | in-Some+in_ok-push w ↦
          taken_more _ _ _ c.args.homes.now c.loop-m.m-index _ c.loop-m.members.items _ w.in-Some.member (ap (λ v. v.items) w.members-is ∙ w.in_ok-push.ensures.items)
          c.loop-m-test.true (c.loop-m.invariant g frame all) (w.in-Some.ensures g frame member)
      | in_default w ↦
          passed_more _ _ _ c.args.homes.now c.loop-m.m-index _ c.loop-m.members.items _ (ap (λ v. v.items) w.members-is) c.loop-m-test.true (c.loop-m.invariant g frame all)
          (w.in_default.ensures g frame member)
    ]

pub returns : goal.returns
returns c = λ g frame all.
    let q = c.args.frame.now in
    subst (λ ms. ChosenFrom (SameModulo g) (IsAtHome (basis_of_frame q)) (InRows g (row_of q.plane) c.args.turned) ms c.loop-m.members.items)
    (take_all c.loop-m.m-index c.args.homes.now c.loop-m-test.false) (c.loop-m.invariant g frame all)
