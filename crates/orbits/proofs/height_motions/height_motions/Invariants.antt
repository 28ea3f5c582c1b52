-- What the operations so far do to the planes, each motion once.
use Rattle.std.proofs.Common.{◌≤◌, map, take, vec_len}
use Rattle.motions.specs.Views.{motion_of, row_of}
use Rattle.orbits.specs.HeightMotionView.{height_motion_of}
use Rattle.orbits.proofs.MotionsSoFar.{AreMotionsOf}
use Rattle.orbits.proofs.height_motions.height_motions.Given as goal

abbrev pub invariant-loop-m : goal.invariant-loop-m
invariant-loop-m l =
    AreMotionsOf (row_of l.frame.plane) l.frame.period.0 (take l.m-index (map motion_of l.m-items)) (map height_motion_of l.motions.items)
    × (vec_len l.motions ≤ l.m-index)
