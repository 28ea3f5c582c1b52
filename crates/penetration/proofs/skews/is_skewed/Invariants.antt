use Rattle.std.proofs.Common.{ℕ, ◌<◌, get_or}
use Rattle.motions.specs.BasisView.{basis_of}
use Rattle.motions.specs.Views.{motion_of}
use Rattle.motions.specs.declared.motion.Motion3.{Motion3}
use Rattle.penetration.specs.DirectionView.{direction_of}
use Rattle.penetration.specs.RodFrames.{SkewsRod}
use Rattle.penetration.proofs.skews.is_skewed.Given as goal

abbrev pub invariant-loop-m : goal.invariant-loop-m
invariant-loop-m l = (k : ℕ) (d : Motion3) → k < l.m-index → ¬ SkewsRod (direction_of l.direction) (basis_of l.dual.basis) (motion_of (get_or l.ops k d))
