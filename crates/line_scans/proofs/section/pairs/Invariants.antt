use Rattle.std.proofs.Common.{◌≡◌, map, take}
use Rattle.motions.specs.Views.{motion_of}
use Rattle.plane_motions.specs.PlaneMotions.{plane_block, plane_of}
use Rattle.line_scans.proofs.section.pairs.Given as goal

abbrev pub invariant-loop-m : goal.invariant-loop-m
invariant-loop-m l = map motion_of (take l.m-index l.ops) ≡ map plane_block (map plane_of l.pairs.items)
