-- What the operations before the index have chosen.
use Rattle.std.proofs.Common.{take}
use Rattle.std.specs.Prelude.{All}
use Rattle.symmetry.specs.Groups.{SameModulo}
use Rattle.motions.specs.Views.{motion_of, parts}
use Rattle.closure.specs.Groups.{group_listing}
use Rattle.scanning.proofs.ChosenLists.{ChosenFrom}
use Rattle.penetration.specs.DirectionView.{direction_of}
use Rattle.penetration.specs.Lines.{InLineStabiliser}
use Rattle.penetration.specs.RodFrameView.{basis_of_rod}
use Rattle.penetration.specs.RodHomes.{IsNear, IsNearSmall}
use Rattle.penetration.specs.RodSections.{counted}
use Rattle.penetration.proofs.members.members_among.Given as goal

abbrev pub invariant-loop-m : goal.invariant-loop-m
invariant-loop-m l = record {
  chosen : ChosenFrom (SameModulo (group_listing l.group)) (IsNear (basis_of_rod l.frame) (parts l.point))
      (InLineStabiliser (group_listing l.group) (direction_of l.frame.direction) (counted (parts l.point))) (take l.m-index l.ops) l.members.items;
  small : All (λ m. IsNearSmall (motion_of m)) l.members.items;
}
