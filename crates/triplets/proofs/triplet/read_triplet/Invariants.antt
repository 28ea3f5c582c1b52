use Rattle.std.proofs.Common.{◌≡◌, take}
use Rattle.triplets.specs.TripletReading.{start, run}
use Rattle.std.proofs.Common.{Ok}
use Rattle.triplets.specs.declared.notation.Notation.TheVariants.{Triplets}
use Rattle.triplets.specs.PlaceBounds.{IsPartWithin}
use Rattle.triplets.proofs.triplet.read_triplet.Given as goal
use Rattle.triplets.proofs.Runs.{going}

-- the bytes so far lead to the reader, whose numbers they bound
abbrev pub invariant-loop-i : goal.invariant-loop-i
invariant-loop-i l = record {
  read : run Triplets (Ok start) (take l.i l.bytes) ≡ going l.reader;
  within : IsPartWithin l.i l.reader.part;
}
