use Rattle.std.proofs.Common.{ℕ, ◌<◌, get_or, map, Contains}
use Rattle.quotient.specs.Modulo.{modulo}
use Rattle.quotient.specs.Lists.{IsListed}
use Rattle.quotient.proofs.check.first_open_pair.Given as goal

-- the products of each motion so far with a listed one are listed
abbrev pub invariant-loop-i : goal.invariant-loop-i
invariant-loop-i g l =
    let M = g.Q.M.Motion in
    let K = modulo M (g.Q.Quotient.IsShift l.q) in
    (k : ℕ) → k < l.i → (n : M.Meaning) → Contains (map M.meaning l.list) n → IsListed K (map M.meaning l.list) (M.product (get_or (map M.meaning l.list) k M.one) n)
