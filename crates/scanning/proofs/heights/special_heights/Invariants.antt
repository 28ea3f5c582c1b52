-- One height for each level before the index.
use Rattle.std.proofs.Common.{map, take}
use Rattle.std.specs.List.{AllZip}
use Rattle.motions.specs.Views.{motion_of}
use Rattle.scanning.specs.SpecialHeights.{IsHeightAt}
use Rattle.scanning.proofs.heights.special_heights.Given as goal

abbrev pub invariant-loop-level : goal.invariant-loop-level
invariant-loop-level l = AllZip (IsHeightAt l.frame (map motion_of l.homes)) (take l.level-index l.level-items) l.heights.items
