use Rattle.std.proofs.Common.{ℤ, ◌<◌, length, map, ap, below_more, subst, sym, ◌∙◌, arith}
use Rattle.orbits.specs.JoinedLevels.{AreJoined}
use Rattle.orbits.specs.LevelView.{level_of}
use Rattle.orbits.specs.HeightMotionView.{height_motion_of}
use Rattle.orbits.proofs.SpecialHeights.{level_is}
use Rattle.orbits.proofs.numbers.earlier_number.Goals as goal

pub loop-i-preserved : goal.loop-i-preserved
loop-i-preserved c =
    let heights = c.args.heights.now in
    let within : c.loop-i.i < length heights = omega (arith, c.loop-i-test.true, c.requires) in
    let P : ℤ → Type 0 = λ z. AreJoined (map height_motion_of c.args.motions.now) c.args.frame.now.period.0 z c.args.height.now.level in
    let is = level_is heights c.loop-i.i c.index-heights-i.result within ∙ sym (ap level_of c.index-heights-i.is) in
    below_more _ _ c.loop-i.invariant (λ a. cc (c.if-are_joined.ensures.1 (subst P is a)))

pub returns : goal.returns
returns c = λ k h. c.loop-i.invariant k (omega (arith, h, c.loop-i-test.false))
