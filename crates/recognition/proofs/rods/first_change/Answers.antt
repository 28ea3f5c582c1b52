use Rattle.std.proofs.Common.{refl, sym, subst, arith, ℕ, ◌≤◌}
use Rattle.std.proofs.Common.{below_more}
use Rattle.motions.specs.PlaneViews.{matrix2_of}
use Rattle.recognition.specs.RodOrder.{IsFirst}
use Rattle.recognition.specs.RodSearch.{IsOfNoMatrix}
use Rattle.recognition.specs.RodTypes.{HasChange, HasChangeOnto}
use Rattle.recognition.proofs.RodOrders.{first_change}
use Rattle.recognition.proofs.rods.first_change.Goals as goal

pub returns-in-Some-clause-first : goal.returns-in-Some-clause-first
returns-in-Some-clause-first c =
    let f = c.in-Some.found in
    let section = c.args.section.now in
    let (same, first) = c.in-Some.ensures in
    let First : ℕ → Type 0 = λ k. IsFirst 75 (HasChange section) (record { number = k; matrix = matrix2_of f.p; z = f.z }) in
    subst First (sym same)
    (first_change 75 (HasChange section) c.loop-number.number (matrix2_of f.p) f.z (omega arith) (omega arith) (λ j from below. c.loop-number.invariant j below from) first)

pub returns-in-Some-clause-none : goal.returns-in-Some-clause-none
returns-in-Some-clause-none c =
    let first = returns-in-Some-clause-first c in
    (λ t. absurd (cc), λ none. absurd (none _ first.bounded first.has))

pub loop-number-preserved : goal.loop-number-preserved
loop-number-preserved c =
    below_more (λ j. 1 ≤ j → IsOfNoMatrix (HasChangeOnto c.args.section.now j)) c.loop-number.number c.loop-number.invariant (λ from. c.in_default.ensures)

pub returns-clause-none : goal.returns-clause-none
returns-clause-none c = (
  λ t d b h. c.loop-number.invariant d.number (omega (arith, b.to)) b.from d.matrix b.matrix d.z b.z h,
  λ h. refl,
)
