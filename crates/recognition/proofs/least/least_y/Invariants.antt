-- The class has the numbers that meet the conditions so far.
use Rattle.std.proofs.Common.{ℕ, ◌<◌, ◌≤◌}
use Rattle.std.specs.Prelude.{◌↔◌}
use Rattle.recognition.specs.Grid.{grid}
use Rattle.recognition.specs.Classes.{InClass, MeetsFirst}
use Rattle.recognition.proofs.least.least_y.Given as goal

abbrev pub invariant-loop-i : goal.invariant-loop-i
invariant-loop-i l = record {
  small : l.class.0 < grid;
  from : 1 ≤ l.class.1.0;
  to : l.class.1.0 ≤ grid;
  left : (v : ℕ) → InClass l.class.0 l.class.1.0 v ↔ ((v < grid) × MeetsFirst l.i l.conditions l.x v);
}
