use Rattle.std.proofs.Common.{ℕ, ◌<◌}
use Rattle.recognition.specs.RodChanges.{Carries}
use Rattle.recognition.specs.RodSearch.{IsOfNoPlace}
use Rattle.recognition.proofs.rod_search.first_matrix.Given as goal

abbrev pub invariant-loop-size : goal.invariant-loop-size
invariant-loop-size l = (s : ℕ) → s < l.size → IsOfNoPlace (Carries l.section l.ops) s
