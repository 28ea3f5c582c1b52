use Rattle.std.proofs.Common.{IfSome, map, subst, sym}
use Rattle.quotient.specs.Modulo.{modulo}
use Rattle.quotient.specs.Lists.{AreHomes, IsListed}
use Rattle.quotient.proofs.HomeLists.{listed_by_homes}
use Rattle.quotient.proofs.check.has_product.Goals as goal

pub returns-in-Some : goal.returns-in-Some
returns-in-Some g c =
    let M = g.Q.M.Motion in
    let q = c.args.q.now in
    let K = modulo M (g.Q.Quotient.IsShift q) in
    let known = subst (λ o. IfSome o (λ known. AreHomes M.meaning (g.Q.Quotient.home_of q) c.args.list.now known.now)) c.in-Some.is c.requires.homes in
    let told = listed_by_homes K M.meaning (g.Q.Quotient.home_of q) (g.met.Q.Quotient.homes q) _ g.met.Q.M.Motion.equal
    c.args.list.now c.in-Some.homes.now known c.then-product.result c.home.result c.home.ensures c.contains.result c.contains.ensures.value in (
      λ t. subst (IsListed K (map M.meaning c.args.list.now)) c.then-product.ensures (told.0 t),
      λ listed. told.1 (subst (IsListed K (map M.meaning c.args.list.now)) (sym c.then-product.ensures) listed),
    )
