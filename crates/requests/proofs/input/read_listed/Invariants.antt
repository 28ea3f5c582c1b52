use Rattle.std.proofs.Common.{◌≡◌, ◌+◌}
use Rattle.triplets.specs.TextReading.{bytes_fed}
use Rattle.requests.proofs.Pieces.{HasFed}
use Rattle.requests.proofs.input.read_listed.Given as goal

abbrev pub invariant-loop-reader : goal.invariant-loop-reader
invariant-loop-reader g l = record {
  fed : HasFed l.fn.notation (g.S.Source.left l.fn.source) (g.S.Source.left l.source) l.reader;
  room : l.room + bytes_fed l.reader ≡ 65536;
  unfailed : g.S.Source.faults l.source ≡ g.S.Source.faults l.fn.source;
  steady : g.S.Source.NeverFails l.fn.source → g.S.Source.NeverFails l.source;
}

abbrev pub decreases-loop-reader : goal.decreases-loop-reader
decreases-loop-reader g l = l.room
