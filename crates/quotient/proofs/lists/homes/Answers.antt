use Rattle.std.proofs.Common.{◌+◌, [], ◌∷◌, ◌++◌, refl, subst, sym, take}
use Rattle.std.proofs.lemmas.List.{take_all}
use Rattle.quotient.specs.Lists.{AreHomes}
use Rattle.quotient.proofs.HomeLists.{AreHomes-none, AreHomes-push, AreHomes-same}
use Rattle.quotient.proofs.Items.{All-item, take_next}
use Rattle.quotient.proofs.lists.homes.Goals as goal

pub loop-m-init : goal.loop-m-init
loop-m-init g c = AreHomes-none g.Q.M.Motion.meaning (g.Q.Quotient.home_of c.args.q.now) _ _ refl c.new-homes.ensures.items

pub home-requires : goal.home-requires
home-requires g c =
    let M = g.Q.M.Motion in
    All-item M.meaning c.args.list.now (M.MovesWithin _) c.loop-m.m-index c.m-item.result c.requires c.loop-m-test.true c.m-item.is

pub loop-m-preserved : goal.loop-m-preserved
loop-m-preserved g c =
    let M = g.Q.M.Motion in
    let home = g.Q.Quotient.home_of c.args.q.now in
    let front = take c.loop-m.m-index c.args.list.now in
    let x = c.m-item.result in
    AreHomes-same M.meaning home (front ++ x ∷ []) (c.loop-m.homes.items ++ c.home.result ∷ []) (take (c.loop-m.m-index + 1) c.args.list.now) c.push.new.self.items
    (sym (take_next c.args.list.now c.loop-m.m-index x c.loop-m-test.true c.m-item.is)) c.in_ok-push.ensures.items
    (AreHomes-push M.meaning home front c.loop-m.homes.items x c.home.result c.loop-m.invariant c.home.ensures)

pub returns : goal.returns
returns g c =
    let M = g.Q.M.Motion in
    subst (λ l. AreHomes M.meaning (g.Q.Quotient.home_of c.args.q.now) l c.loop-m.homes.items) (take_all c.loop-m.m-index c.args.list.now c.loop-m-test.false) c.loop-m.invariant
