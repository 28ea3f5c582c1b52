use Rattle.std.proofs.Common.{ℕ, ◌<◌, get_or}
use Rattle.motions.specs.BasisView.{basis_of}
use Rattle.motions.specs.Views.{motion_of, row_of}
use Rattle.motions.specs.declared.motion.Motion3.{Motion3}
use Rattle.plane_lattice.specs.Skews.{Skews}
use Rattle.plane_lattice.proofs.skews.is_skewed.Given as goal

abbrev pub invariant-loop-m : goal.invariant-loop-m
invariant-loop-m l = (k : ℕ) (d : Motion3) → k < l.m-index → ¬ Skews (row_of l.plane) (basis_of l.dual.basis) (motion_of (get_or l.ops k d))
