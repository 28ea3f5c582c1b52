use Rattle.std.proofs.Common.{ℕ, ◌<◌, ◌≤◌}
use Rattle.recognition.specs.RodSearch.{IsOfNoMatrix}
use Rattle.recognition.specs.RodTypes.{HasChangeOnto}
use Rattle.recognition.proofs.rods.first_change.Given as goal

abbrev pub invariant-loop-number : goal.invariant-loop-number
invariant-loop-number l = (j : ℕ) → j < l.number → 1 ≤ j → IsOfNoMatrix (HasChangeOnto l.section j)
