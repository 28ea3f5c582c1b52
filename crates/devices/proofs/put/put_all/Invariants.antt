use Rattle.std.proofs.Common.{length, take, ◌-◌, ◌≡◌, ℕ, ◌≤◌, Some}
use Rattle.std.specs.Io.KnownBytes.{append_known}
use Rattle.devices.specs.Transfers.{Offers}
use Rattle.devices.proofs.put.put_all.Given as goal

abbrev pub invariant-loop-taken : goal.invariant-loop-taken
invariant-loop-taken g l = record {
  fits : l.taken ≤ length l.text;
  holds : g.K.Sink.held l.out ≡ append_known (g.K.Sink.held l.fn.out) (take l.taken l.text);
  unfailed : g.K.Sink.faults l.out ≡ g.K.Sink.faults l.fn.out;
  offers : Offers g.K.Sink.IsPut l.text l.fn.out (Some l.taken) l.out;
  steady : (n : ℕ) → g.K.Sink.Takes l.fn.out n → length l.text ≤ n → g.K.Sink.Takes l.out (n - l.taken);
}

abbrev pub decreases-loop-taken : goal.decreases-loop-taken
decreases-loop-taken g l = length l.text - l.taken
