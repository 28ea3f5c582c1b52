-- What the members before the index do.
use Rattle.std.proofs.Common.{List, map, take}
use Rattle.std.specs.Prelude.{All}
use Rattle.symmetry.specs.Motions.{Motion}
use Rattle.motions.specs.RodMotions.{rod_of}
use Rattle.motions.specs.Views.{motion_of, parts}
use Rattle.closure.specs.Groups.{group_listing}
use Rattle.recognition.specs.RodTests.{IsSmallRod}
use Rattle.penetration.specs.DirectionView.{direction_of}
use Rattle.penetration.specs.RodFrameView.{basis_of_rod}
use Rattle.penetration.specs.RodFrames.{AreRodOperations}
use Rattle.penetration.specs.RodSections.{AreSections, counted}
use Rattle.penetration.proofs.section_lists.sections.Given as goal

abbrev pub invariant-loop-m : goal.invariant-loop-m
invariant-loop-m l = record {
  acts : (rods : List Motion) → AreRodOperations (group_listing l.group) (direction_of l.frame.direction) rods
      → AreSections (direction_of l.frame.direction) (basis_of_rod l.frame) rods (counted (parts l.point)) (map motion_of (take l.m-index l.members)) (map rod_of l.section.items);
  small : All IsSmallRod l.section.items;
}
