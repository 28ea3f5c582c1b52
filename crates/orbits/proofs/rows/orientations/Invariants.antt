-- The rows of the operations so far, of which none is too wide.
use Rattle.std.proofs.Common.{take, map}
use Rattle.motions.specs.Views.{motion_of, row_of, vector_of}
use Rattle.orbits.proofs.RowLists.{AreRowsOf}
use Rattle.orbits.proofs.rows.orientations.Given as goal

abbrev pub invariant-loop-m : goal.invariant-loop-m
invariant-loop-m l = AreRowsOf (row_of l.plane) (take l.m-index (map motion_of l.m-items)) (map vector_of l.rows.items)
