-- No operation so far is like the motion.
use Rattle.std.proofs.Common.{ℕ, ◌<◌, slice_index_or}
use Rattle.motions.specs.declared.layer.LayerMotion.{LayerMotion}
use Rattle.motions.specs.PlaneViews.{matrix2_of}
use Rattle.recognition.specs.Listed.{IsLike}
use Rattle.recognition.proofs.conditions.condition_of.Given as goal

abbrev pub invariant-loop-n : goal.invariant-loop-n
invariant-loop-n l = (k : ℕ) (d : LayerMotion) → k < l.n-index → ¬ (IsLike (matrix2_of l.p) l.m (slice_index_or l.t.ops.now k d))
