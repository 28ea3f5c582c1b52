use Rattle.std.proofs.Common.{rules, tests}
use Rattle.std.proofs.iter.Serving.{serving}
use Rattle.std.proofs.lemmas.Iterator.{cases_from_any, YieldsList-from_slice}
use Rattle.quotient.specs.Modulo.{modulo}
use Rattle.quotient.specs.Groups.{AreInverse}
use Rattle.quotient.proofs.Searches.{some_of}
use Rattle.quotient.proofs.check.has_inverse.Goals as goal
use Rattle.quotient.proofs.ListLaws.{All-from_map}

pub any-requires-clause-callable : goal.any-requires-clause-callable
any-requires-clause-callable g c =
    let M = g.Q.M.Motion in
    let small = All-from_map M.meaning M.IsSmall c.args.list.now c.requires.small in
    grind serving

pub returns : goal.returns
returns g c =
    let M = g.Q.M.Motion in
    let K = modulo M (g.Q.Quotient.IsShift c.args.q.now) in
    let P = AreInverse K (M.meaning c.args.m.now) in
    let list = c.args.list.now in
    let found = some_of M.meaning P list c.any.result
    (cases_from_any _ _ _ (λ n. P (M.meaning n)) (λ n. ¬ P (M.meaning n)) c.any.ensures.ran (YieldsList-from_slice list cc) (λ x q k. search (rules, tests)) (λ x q k. search (rules, tests))) in (
      λ t. let (k, n, within, is, undoes) = found.0 t in record { inverse = n; listed = (k, within, is); undoes = undoes },
      λ h. let (k, within, is) = h.listed in found.1 (k, h.inverse, within, is, h.undoes),
    )
