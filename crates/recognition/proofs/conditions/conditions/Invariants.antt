-- The conditions so far are those of the motions so far.
use Rattle.std.proofs.Common.{◌≡◌, length, ◌↔◌, ℕ, ◌<◌, slice_index_or}
use Rattle.std.specs.Prelude.{Any}
use Rattle.motions.specs.declared.layer.LayerMotion.{LayerMotion}
use Rattle.motions.specs.PlaneViews.{matrix2_of}
use Rattle.recognition.specs.declared.line.Condition.{Condition}
use Rattle.recognition.specs.Classes.{Meets}
use Rattle.recognition.specs.Listed.{IsPaired}
use Rattle.recognition.proofs.conditions.conditions.Given as goal

abbrev pub invariant-loop-i : goal.invariant-loop-i
invariant-loop-i l = record {
  all : length l.conditions ≡ 24;
  each :
      (k : ℕ) (d : Condition) (e : LayerMotion) → k < l.i → (x y : ℕ)
      → Meets (slice_index_or l.conditions k d) x y ↔ Any (λ n. IsPaired (matrix2_of l.p) x y (slice_index_or l.section k e) n) l.t.ops.now;
}
