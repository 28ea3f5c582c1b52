-- The number divides those of the residues so far.
use Rattle.std.proofs.Common.{map}
use Rattle.motions.specs.Views.{parts, row_of}
use Rattle.closure.specs.Groups.{group_listing}
use Rattle.surveys.proofs.LatticeNumbers.{IsDivisorOf}
use Rattle.surveys.proofs.periods.period.Given as goal

abbrev pub invariant-loop-v : goal.invariant-loop-v
invariant-loop-v l = IsDivisorOf (group_listing l.group) (row_of l.plane) (map parts l.v-items) l.v-index l.period
