-- A motion gives nothing, or a number and the one that is a period more.
use Rattle.std.proofs.Common.{◌≡◌, ℤ, ◌+ℤ◌, List, ap, ◌∙◌, ◌∷◌, [], ◌++◌}
use Rattle.motions.specs.Views.{row_of}
use Rattle.scanning.proofs.Shifts.{next_fits, next_is, rest_is}
use Rattle.scanning.proofs.TurnedLevels.{passed_more, taken_more}
use Rattle.scanning.proofs.turned.turned_levels.Goals as goal
use Rattle.scanning.proofs.turned.turned_levels.Goals.{in-Some+in_ok-push+in_ok-push-2, in_default}

pushed_twice : (ts us vs ws : List ℤ) (t t' n n' : ℤ) → t' ≡ t → n' ≡ n → us ≡ ts ++ t' ∷ [] → vs ≡ us ++ n' ∷ [] → ws ≡ vs → ws ≡ (ts ++ t ∷ []) ++ n ∷ []
pushed_twice ts us vs ws t t' n n' e f one two is = is ∙ two ∙ (λ i. (one ∙ ap (λ z. ts ++ z ∷ []) e) i ++ f i ∷ [])

pub overflow_add-level : goal.overflow_add-level
overflow_add-level c = let of_level = c.in-Some.ensures in next_fits c.args.frame.now c.in-Some.level of_level.1 of_level.2

pub loop-m-preserved : goal.loop-m-preserved
loop-m-preserved c =
    let q = c.args.frame.now in
    elim c.match-turned_shift.branch [
      | in-Some+in_ok-push+in_ok-push-2 w ↦
          let (turns, from, below, (k, is)) = w.in-Some.ensures in
          taken_more (row_of q.plane) q.period.0 c.args.homes.now c.loop-m.m-index _ c.loop-m.levels.items _ w.in-Some.level k
          (pushed_twice c.loop-m.levels.items _ _ _ w.in-Some.level _ (w.in-Some.level +ℤ q.period.0) _ (rest_is q w.in-Some.level from below) (next_is q w.in-Some.level from below) w.in_ok-push.ensures.items w.in_ok-push-2.ensures.items (ap (λ v. v.items) w.levels-is))
          c.loop-m-test.true turns from below is c.loop-m.invariant
      | in_default w ↦
          passed_more (row_of q.plane) q.period.0 c.args.homes.now c.loop-m.m-index _ c.loop-m.levels.items _ (ap (λ v. v.items) w.levels-is) c.loop-m-test.true
          w.in_default.ensures c.loop-m.invariant
    ]
