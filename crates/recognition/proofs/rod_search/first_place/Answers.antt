use Rattle.std.proofs.Common.{◌≡◌, below_more, arith}
use Rattle.recognition.specs.RodChanges.{Carries}
use Rattle.recognition.specs.Order.{size_of}
use Rattle.recognition.specs.RodOrigins.{IsNotIn}
use Rattle.recognition.specs.RodSearch.{matrix_at}
use Rattle.recognition.proofs.rod_search.first_place.Goals as goal

pub loop-index-preserved : goal.loop-index-preserved
loop-index-preserved c =
    below_more (λ j. size_of (matrix_at j) ≡ c.args.size → IsNotIn 96 (Carries c.args.section.now c.args.ops.now (matrix_at j))) c.loop-index.index c.loop-index.invariant
    c.in_default.ensures

pub returns : goal.returns
returns c = λ j h. c.loop-index.invariant j (omega arith)
