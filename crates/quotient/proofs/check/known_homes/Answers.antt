use Rattle.std.proofs.Common.{◌≡◌, rules, tests}
use Rattle.std.proofs.iter.Serving.{serving}
use Rattle.std.proofs.lemmas.Iterator.{cases_from_all, YieldsList-from_slice}
use Rattle.quotient.proofs.HomeLists.{own_homes}
use Rattle.quotient.proofs.Searches.{all_are}
use Rattle.quotient.proofs.check.known_homes.Goals as goal
use Rattle.quotient.proofs.ListLaws.{All-from_map}

pub all-requires-clause-callable : goal.all-requires-clause-callable
all-requires-clause-callable g c =
    let M = g.Q.M.Motion in
    let reaches = All-from_map M.meaning (M.MovesWithin _) c.args.list.now c.requires in
    grind serving

pub returns-then-all : goal.returns-then-all
returns-then-all g c =
    let M = g.Q.M.Motion in
    let home = g.Q.Quotient.home_of c.args.q.now in
    let list = c.args.list.now in
    let told = all_are (λ m. M.meaning m ≡ M.meaning (home m)) list c.all.result
    (cases_from_all _ _ _ (λ m. M.meaning m ≡ M.meaning (home m)) (λ m. ¬ (M.meaning m ≡ M.meaning (home m))) c.all.ensures.ran (YieldsList-from_slice list cc) (λ x q k. search (rules, tests, g.met.Q.M.Motion.equal)) (λ x q k. search (rules, tests, g.met.Q.M.Motion.equal))) in
    own_homes M.meaning home list (told.0 c.if-all.true)
