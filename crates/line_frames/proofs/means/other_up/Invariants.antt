use Rattle.std.proofs.Common.{◌≡◌, ℕ, ◌<◌, get_or}
use Rattle.symmetry.specs.Frames.{KeepsOrientation, sign_at}
use Rattle.symmetry.specs.Vectors.{image, multiple}
use Rattle.motions.specs.Views.{motion_of, parts, row_of}
use Rattle.motions.specs.declared.motion.Motion3.{Motion3}
use Rattle.line_frames.proofs.means.other_up.Given as goal

abbrev pub invariant-loop-m : goal.invariant-loop-m
invariant-loop-m l = (k : ℕ) (d : Motion3) → k < l.m-index → KeepsOrientation (row_of l.plane) (motion_of (get_or l.ops k d))
    → multiple (sign_at (row_of l.plane) (motion_of (get_or l.ops k d))) (image (motion_of (get_or l.ops k d)).matrix (parts l.tau)) ≡ parts l.tau
