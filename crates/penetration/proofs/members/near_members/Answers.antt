-- The operations of the group are members, and no two are the same.
use Rattle.std.proofs.Common.{map}
use Rattle.std.proofs.lemmas.Result.{IfOk-weaker}
use Rattle.symmetry.specs.Groups.{SameModulo}
use Rattle.symmetry.specs.Lists.{AreChosen, IsListOf}
use Rattle.motions.specs.Views.{motion_of, parts}
use Rattle.closure.specs.Groups.{group_listing}
use Rattle.penetration.specs.DirectionView.{direction_of}
use Rattle.penetration.specs.Lines.{InLineStabiliser}
use Rattle.penetration.specs.RodFrameView.{basis_of_rod}
use Rattle.penetration.specs.RodHomes.{IsNear}
use Rattle.penetration.specs.RodSections.{counted}
use Rattle.penetration.proofs.NearLists.{all_members, chosen_of_group}
use Rattle.penetration.proofs.members.near_members.Goals as goal

pub members_among-requires-clause-members : goal.members_among-requires-clause-members
members_among-requires-clause-members c = all_members (group_listing c.args.group.now) (map motion_of c.ops.result.now) c.ops.ensures.ops

pub returns-clause-list : goal.returns-clause-list
returns-clause-list c =
    let g = group_listing c.args.group.now in
    let near = IsNear (basis_of_rod c.args.frame.now) (parts c.args.point.now) in
    let S = InLineStabiliser g (direction_of c.args.frame.now.direction) (counted (parts c.args.point.now)) in
    IfOk-weaker c.members_among.result
    (λ ms. AreChosen (SameModulo g) near S (map motion_of c.ops.result.now) (map motion_of ms.items))
    (λ ms. IsListOf (SameModulo g) g.ops near S (map motion_of ms.items))
    (λ ms chosen. chosen_of_group g near S (λ m in_it. in_it.0) c.ops.ensures.apart c.ops.result.now ms.items c.ops.ensures.ops chosen)
    c.members_among.ensures.chosen
