use Rattle.std.proofs.Common.{◌≡◌, ℕ, ◌<◌}
use Rattle.recognition.specs.RodChanges.{Carries}
use Rattle.recognition.specs.Order.{size_of}
use Rattle.recognition.specs.RodOrigins.{IsNotIn}
use Rattle.recognition.specs.RodSearch.{matrix_at}
use Rattle.recognition.proofs.rod_search.first_place.Given as goal

abbrev pub invariant-loop-index : goal.invariant-loop-index
invariant-loop-index l = (j : ℕ) → j < l.index → size_of (matrix_at j) ≡ l.size → IsNotIn 96 (Carries l.section l.ops (matrix_at j))
