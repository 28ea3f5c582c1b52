use Rattle.std.proofs.Common.{[], ◌∷◌, ◌++◌, unsigned_abs, subst, sym, ◌∙◌}
use Rattle.quotient.specs.Modulo.{modulo}
use Rattle.quotient.specs.Lists.{AreHomes}
use Rattle.quotient.proofs.HomeLists.{AreHomes-none, AreHomes-push, AreHomes-same, listed_by_homes}
use Rattle.quotient.proofs.Items.{All-item}
use Rattle.quotient.proofs.Kept.{KeepsFirst-all, KeepsFirst-more, KeepsFirst-none, KeepsFirst-same}
use Rattle.quotient.proofs.Sameness.{same_is_equivalence}
use Rattle.quotient.proofs.lists.distinct.Goals as goal
use Rattle.quotient.proofs.lists.distinct.Goals.{then-not-contains+in_ok-push+in_ok-push-2, else-not-contains}

pub loop-m-init : goal.loop-m-init
loop-m-init g c =
    let M = g.Q.M.Motion in
    let K = modulo M (g.Q.Quotient.IsShift c.args.q.now) in
    record {
      first = KeepsFirst-none K M.meaning (M.MovesWithin (unsigned_abs g.Q.Quotient.REACH)) c.args.list.now c.new-kept.result.items c.new-kept.ensures.items;
      homes = AreHomes-none M.meaning (g.Q.Quotient.home_of c.args.q.now) _ _ c.new-kept.ensures.items c.new-homes.ensures.items;
    }

pub home-home-requires : goal.home-home-requires
home-home-requires g c =
    let M = g.Q.M.Motion in
    All-item M.meaning c.args.list.now (M.MovesWithin (unsigned_abs g.Q.Quotient.REACH)) c.loop-m.m-index c.m-item.result c.requires c.loop-m-test.true c.m-item.is

pub loop-m-preserved : goal.loop-m-preserved
loop-m-preserved g c =
    let M = g.Q.M.Motion in
    let q = c.args.q.now in
    let K = modulo M (g.Q.Quotient.IsShift q) in
    let home = g.Q.Quotient.home_of q in
    let P = M.MovesWithin (unsigned_abs g.Q.Quotient.REACH) in
    let list = c.args.list.now in
    let x = c.m-item.result in
    let kept = c.loop-m.kept.items in
    let E = same_is_equivalence K g.met.Q.M.Motion.monoid (g.met.Q.Quotient.shifts q) in
    let reaches = All-item M.meaning list P c.loop-m.m-index x c.requires c.loop-m-test.true c.m-item.is in
    let homes_here = subst (AreHomes M.meaning home kept) (sym c.deref.ensures.value) c.loop-m.invariant.homes in
    let found = listed_by_homes K M.meaning home (g.met.Q.Quotient.homes q) _ g.met.Q.M.Motion.equal
    kept c.deref.result.now homes_here x c.home-home.result c.home-home.ensures c.contains.result c.contains.ensures.value in
    let more = KeepsFirst-more K M.meaning P list E c.loop-m.m-index x c.loop-m-test.true c.m-item.is kept c.if-not-contains.kept.items c.loop-m.invariant.first reaches in
    let same = KeepsFirst-same K M.meaning P list c.loop-m.m-index x c.loop-m-test.true c.m-item.is kept c.if-not-contains.kept.items c.loop-m.invariant.first in
    elim c.if-not-contains.branch [
      | then-not-contains+in_ok-push+in_ok-push-2 w ↦ record {
        first = more (λ h. let s = found.1 h in let f = w.if-not-contains.true in cc) ((λ t. (w.kept-is t).items) ∙ w.in_ok-push.ensures.items);
        homes = AreHomes-same M.meaning home (kept ++ x ∷ []) (c.loop-m.homes.items ++ c.home-home.result ∷ []) c.if-not-contains.kept.items c.if-not-contains.homes.items
            ((λ t. (w.kept-is t).items) ∙ w.in_ok-push.ensures.items) ((λ t. (w.homes-is t).items) ∙ w.in_ok-push-2.ensures.items)
            (AreHomes-push M.meaning home kept c.loop-m.homes.items x c.home-home.result c.loop-m.invariant.homes c.home-home.ensures);
      }
      | else-not-contains w ↦ record {
        first = same (found.0 w.if-not-contains.false) (λ t. (w.kept-is t).items);
        homes = AreHomes-same M.meaning home kept c.loop-m.homes.items c.if-not-contains.kept.items c.if-not-contains.homes.items
            (λ t. (w.kept-is t).items) (λ t. (w.homes-is t).items) c.loop-m.invariant.homes;
      }
    ]

pub returns : goal.returns
returns g c =
    let M = g.Q.M.Motion in
    let K = modulo M (g.Q.Quotient.IsShift c.args.q.now) in
    KeepsFirst-all K M.meaning (M.MovesWithin (unsigned_abs g.Q.Quotient.REACH)) c.args.list.now c.loop-m.m-index c.loop-m-test.false c.loop-m.kept.items c.loop-m.invariant.first
