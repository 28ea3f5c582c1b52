-- The shifts of the operations so far.
use Rattle.std.proofs.Common.{◌≤◌, map, take, vec_len}
use Rattle.motions.specs.Views.{motion_of, row_of}
use Rattle.surveys.specs.Surveys.{ListsSet}
use Rattle.surveys.specs.TurnedShifts.{IsTurnedShift}
use Rattle.surveys.proofs.shifts.turned_shifts.Given as goal

abbrev pub invariant-loop-m : goal.invariant-loop-m
invariant-loop-m l =
    ListsSet (IsTurnedShift (row_of l.plane) l.period.0 (take l.m-index (map motion_of l.m-items))) l.shifts.items × (vec_len l.shifts ≤ l.m-index)
