-- Each x that meets the conditions so far is in the class.
use Rattle.std.proofs.Common.{ℕ, ◌<◌, ◌≤◌}
use Rattle.recognition.specs.Grid.{grid}
use Rattle.recognition.specs.Classes.{InClass, MeetsFirst}
use Rattle.recognition.proofs.least.possible_x.Given as goal

abbrev pub invariant-loop-i : goal.invariant-loop-i
invariant-loop-i l = record {
  small : l.class.0 < grid;
  from : 1 ≤ l.class.1.0;
  to : l.class.1.0 ≤ grid;
  has : (x y : ℕ) → x < grid → MeetsFirst l.i l.conditions x y → InClass l.class.0 l.class.1.0 x;
}
