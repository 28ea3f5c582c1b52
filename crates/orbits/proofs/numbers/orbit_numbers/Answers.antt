use Rattle.std.proofs.Common.{◌≡◌, ◌<◌, List, ℕ, length, map, ap, subst, sym, ◌∙◌}
use Rattle.symmetry.specs.Orbits.{number_at}
use Rattle.orbits.specs.JoinedLevels.{AreJoined}
use Rattle.orbits.specs.LevelView.{AreJoinedAt, level_at, level_of}
use Rattle.orbits.specs.HeightMotionView.{height_motion_of}
use Rattle.orbits.proofs.SpecialHeights.{level_is}
use Rattle.orbits.proofs.Numbering.{next_number, old_number}
use Rattle.orbits.proofs.numbers.orbit_numbers.Goals as goal
use Rattle.orbits.proofs.numbers.orbit_numbers.Goals.{in-Some, in-None}

pub loop-height-preserved : goal.loop-height-preserved
loop-height-preserved c =
    let heights = c.args.heights.now in
    let n = c.loop-height.height-index in
    let R = AreJoinedAt c.args.motions.now c.args.frame.now.period.0 heights in
    let J = AreJoined (map height_motion_of c.args.motions.now) c.args.frame.now.period.0 in
    let is = level_is heights n c.height-item.result c.loop-height-test.true ∙ sym (ap level_of c.height-item.is) in
    let here : (i : ℕ) → J (level_at heights i) c.height-item.result.level → R i n = λ i. subst (J (level_at heights i)) (sym is) in
    let old = old_number R n (length heights) c.loop-height-test.true c.requires.classes c.loop-height.numbers.items c.push.new.self.items c.loop-height.orbits
    c.match-earlier_number.orbits c.match-earlier_number.number c.loop-height.invariant c.in_ok-push.ensures.items in
    let next = next_number R n (length heights) c.loop-height-test.true c.requires.classes c.loop-height.numbers.items c.push.new.self.items c.loop-height.orbits
    c.match-earlier_number.orbits c.match-earlier_number.number c.loop-height.invariant c.in_ok-push.ensures.items in
    elim c.match-earlier_number.branch [
      | in-Some w ↦
          let Found : List ℕ → Type 0 = λ l. (i : ℕ) × (i < length l) × (number_at l i ≡ w.in-Some.number) × J (level_at heights i) c.height-item.result.level in
          let (i, within, number, joined) = subst Found c.deref.ensures.value w.in-Some.ensures in
          old w.orbits-is i within (number ∙ sym w.number-is) (here i joined)
      | in-None w ↦
          let Nothing : List ℕ → Type 0 = λ l. (i : ℕ) → i < length l → ¬ J (level_at heights i) c.height-item.result.level in
          next w.orbits-is w.number-is (λ i h joined. subst Nothing c.deref.ensures.value w.in-None.ensures i h (subst (J (level_at heights i)) is joined))
    ]
