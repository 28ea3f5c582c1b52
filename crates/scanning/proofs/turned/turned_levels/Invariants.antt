-- What the motions before the index give.
use Rattle.std.proofs.Common.{map, take}
use Rattle.motions.specs.Views.{motion_of, row_of}
use Rattle.scanning.specs.Levels.{AreTurned}
use Rattle.scanning.proofs.turned.turned_levels.Given as goal

abbrev pub invariant-loop-m : goal.invariant-loop-m
invariant-loop-m l = AreTurned (row_of l.frame.plane) l.frame.period.0 (map motion_of (take l.m-index l.homes)) l.levels.items
