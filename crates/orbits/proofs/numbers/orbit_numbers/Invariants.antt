-- The heights so far have their numbers.
use Rattle.orbits.specs.LevelView.{AreJoinedAt}
use Rattle.orbits.specs.Numbers.{AreNumbered}
use Rattle.orbits.proofs.numbers.orbit_numbers.Given as goal

abbrev pub invariant-loop-height : goal.invariant-loop-height
invariant-loop-height l = AreNumbered (AreJoinedAt l.motions l.frame.period.0 l.heights) l.height-index l.numbers.items l.orbits
