-- None of the heights so far is in one orbit with the height.
use Rattle.std.proofs.Common.{ℕ, ◌<◌, map}
use Rattle.orbits.specs.JoinedLevels.{AreJoined}
use Rattle.orbits.specs.LevelView.{level_at}
use Rattle.orbits.specs.HeightMotionView.{height_motion_of}
use Rattle.orbits.proofs.numbers.earlier_number.Given as goal

abbrev pub invariant-loop-i : goal.invariant-loop-i
invariant-loop-i l = (k : ℕ) → k < l.i → ¬ AreJoined (map height_motion_of l.motions) l.frame.period.0 (level_at l.heights k) l.height.level
