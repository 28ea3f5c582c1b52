-- What each operation does to the planes is new or is listed.
use Rattle.std.proofs.Common.{List, Any, ap, map, subst, sym, vec_len, ◌≡◌, ◌∙◌, arith}
use Rattle.motions.specs.Views.{row_of}
use Rattle.closure.specs.Groups.{group_listing}
use Rattle.orbits.specs.HeightMotionView.{height_motion_of}
use Rattle.orbits.specs.declared.height_motion.HeightMotion.{HeightMotion}
use Rattle.orbits.proofs.MotionsSoFar.{all_motions, again, first, over}
use Rattle.orbits.proofs.RowLists.{motion_is_small}
use Rattle.orbits.proofs.height_motions.height_motions.Goals as goal
use Rattle.orbits.proofs.height_motions.height_motions.Goals.{in-Some+then-not-lists_motion+in_ok-push, in-Some+else-not-lists_motion, in_default}

pub height_motion-requires : goal.height_motion-requires
height_motion-requires c = motion_is_small _ c.ops-m-items.result.now c.loop-m.m-index _ c.ops-m-items.ensures.small c.loop-m-test.true

pub loop-m-preserved : goal.loop-m-preserved
loop-m-preserved c =
    let q = c.args.frame.now in
    let r = row_of q.plane in
    let ops = c.ops-m-items.result.now in
    let i = c.loop-m.m-index in
    elim c.match-height_motion.branch [
      | in-Some+then-not-lists_motion+in_ok-push w ↦
          let P : List HeightMotion → Type 0 = λ l. Any (λ k. height_motion_of w.in-Some.motion ≡ k) (map height_motion_of l) in (
            first r q.period.0 q.plane.coprime ops i _ c.loop-m-test.true c.loop-m.motions.items c.match-height_motion.motions.items c.loop-m.invariant.0 w.in-Some.motion
                w.in-Some.ensures (ap (λ v. v.items) w.motions-is ∙ w.in_ok-push.ensures.items)
                (λ a. cc (w.lists_motion.ensures.1 (subst P (sym w.deref.ensures.value) a), w.if-not-lists_motion.true)),
            omega (arith, ap vec_len w.motions-is ∙ w.in_ok-push.ensures.len, c.loop-m.invariant.1),
          )
      | in-Some+else-not-lists_motion w ↦
          let P : List HeightMotion → Type 0 = λ l. Any (λ k. height_motion_of w.in-Some.motion ≡ k) (map height_motion_of l) in (
            again r q.period.0 q.plane.coprime ops i _ c.loop-m-test.true c.loop-m.motions.items c.match-height_motion.motions.items c.loop-m.invariant.0 w.in-Some.motion
                w.in-Some.ensures (ap (λ v. v.items) w.motions-is) (subst P w.deref.ensures.value (w.lists_motion.ensures.0 w.if-not-lists_motion.false)),
            omega (arith, ap vec_len w.motions-is, c.loop-m.invariant.1),
          )
      | in_default w ↦ (
        over r q.period.0 q.plane.coprime ops i _ c.loop-m-test.true c.loop-m.motions.items c.match-height_motion.motions.items c.loop-m.invariant.0
            (ap (λ v. v.items) w.motions-is) w.in_default.ensures,
        omega (arith, ap vec_len w.motions-is, c.loop-m.invariant.1),
      )
    ]

pub returns-clause-motions : goal.returns-clause-motions
returns-clause-motions c =
    all_motions (group_listing c.args.group.now) (row_of c.args.frame.now.plane) c.args.frame.now.period.0 c.ops-m-items.result.now c.loop-m.m-index
    (map height_motion_of c.loop-m.motions.items) c.ops-m-items.ensures.ops c.loop-m-test.false c.loop-m.invariant.0
