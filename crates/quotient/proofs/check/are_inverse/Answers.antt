use Rattle.quotient.proofs.Sameness.{shift_is_same}
use Rattle.quotient.proofs.check.are_inverse.Goals as goal

pub returns-then-is_shift : goal.returns-then-is_shift
returns-then-is_shift g c =
    let M = g.Q.M.Motion in
    let q = c.args.q.now in
    let same = shift_is_same M.meaning (g.Q.Quotient.IsShift q) g.met.Q.M.Motion.monoid (g.met.Q.Quotient.by_meaning q) in
    let after = same c.then.result _ c.then.ensures in
    let before = same c.then-then-is_shift.result _ c.then-then-is_shift.ensures in (
      λ t. record { after = after.0 (c.is_shift.ensures.0 c.if-is_shift.true); before = before.0 (c.is_shift-then-is_shift.ensures.0 t) },
      λ h. c.is_shift-then-is_shift.ensures.1 (before.1 h.before),
    )
