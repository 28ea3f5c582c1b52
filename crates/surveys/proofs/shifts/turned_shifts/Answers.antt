-- An operation gives nothing, or a number that is new or listed.
use Rattle.std.proofs.Common.{ℤ, Global, Vec, arith, ap, subst, sym, vec_len}
use Rattle.motions.specs.Views.{row_of}
use Rattle.closure.specs.Groups.{group_listing}
use Rattle.orbits.proofs.RowLists.{motion_is_small}
use Rattle.integers.proofs.Coded.{again}
use Rattle.surveys.specs.Additions.{IsWith}
use Rattle.surveys.proofs.ShiftLists.{all_shifts, no_shifts, passed_more, taken_more}
use Rattle.surveys.proofs.shifts.turned_shifts.Goals as goal
use Rattle.surveys.proofs.shifts.turned_shifts.Goals.{in-Some+in_ok-add_shift, in_default}

pub loop-m-init : goal.loop-m-init
loop-m-init c = (no_shifts (row_of c.args.plane.now) c.args.period.0 c.new-shifts.result.items c.new-shifts.ensures.items, omega (arith, c.new-shifts.ensures.len))

pub turned_shift-requires-clause-motion : goal.turned_shift-requires-clause-motion
turned_shift-requires-clause-motion c = motion_is_small _ c.ops-m-items.result.now c.loop-m.m-index _ c.ops-m-items.ensures.small c.loop-m-test.true

pub loop-m-preserved : goal.loop-m-preserved
loop-m-preserved c =
    let r = row_of c.args.plane.now in
    let d = c.args.period.0 in
    let ops = c.ops-m-items.result.now in
    let i = c.loop-m.m-index in
    elim c.match-turned_shift.branch [
      | in-Some+in_ok-add_shift w ↦
          let (turns, from, below, (k, is)) = w.in-Some.ensures in (
            taken_more r d ops i _ c.loop-m-test.true c.loop-m.shifts.items c.match-turned_shift.shifts.items c.loop-m.invariant.0 c.requires.most w.in-Some.shift k
                (subst (λ (v : Vec ℤ Global). IsWith c.loop-m.shifts.items (again w.in-Some.shift) v.items) (sym w.shifts-is) w.in_ok-add_shift.ensures.with) turns from below is,
            omega (arith, ap vec_len w.shifts-is, w.in_ok-add_shift.ensures.few, c.loop-m.invariant.1),
          )
      | in_default w ↦ (
        passed_more r d ops i _ c.loop-m-test.true c.loop-m.shifts.items c.match-turned_shift.shifts.items c.loop-m.invariant.0 (ap (λ v. v.items) w.shifts-is) w.in_default.ensures,
        omega (arith, ap vec_len w.shifts-is, c.loop-m.invariant.1),
      )
    ]

pub returns-clause-each : goal.returns-clause-each
returns-clause-each c =
    all_shifts (row_of c.args.plane.now) c.args.period.0 c.ops-m-items.result.now (group_listing c.args.group.now).ops c.loop-m.m-index c.loop-m.shifts.items
    c.ops-m-items.ensures.ops c.loop-m-test.false c.loop-m.invariant.0

pub returns-clause-few : goal.returns-clause-few
returns-clause-few c = omega (arith, c.loop-m.invariant.1, c.loop-m.auto.m-index-end, c.ops-m-items.ensures.few)
