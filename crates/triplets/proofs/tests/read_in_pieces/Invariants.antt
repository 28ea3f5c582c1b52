use Rattle.std.proofs.Common.{◌≡◌, ◌≤◌, ◌-◌, length}
use Rattle.triplets.specs.TextReading.{bytes_fed}
use Rattle.triplets.proofs.tests.read_in_pieces.Given as goal

-- the bytes before the start were fed
abbrev pub invariant-loop-start : goal.invariant-loop-start
invariant-loop-start l = record { fed : bytes_fed l.reader ≡ l.start; within : l.start ≤ length l.bytes }

abbrev pub decreases-loop-start : goal.decreases-loop-start
decreases-loop-start l = length l.bytes - l.start
