-- Both factors are at least 1.
use Rattle.std.proofs.Common.{rules, ◌≡◌, ◌≤ℤ◌, ◌*ℤ◌, ℤ, pos, sym, subst, arith, to_z, of_z}
use Rattle.std.proofs.lemmas.Int.{ints}
use Rattle.std.specs.Int.{w128}
use Rattle.integers.proofs.Order.{one-le-mul}
use Rattle.penetration.proofs.means.denominator.Goals as goal

pub returns-clause-positive : goal.returns-clause-positive
returns-clause-positive c =
    let is : to_z w128 (of_z w128 (to_z w128 c.args.count *ℤ to_z w128 (of_z w128 c.args.volume))) ≡ pos c.args.count *ℤ c.args.volume = search rules in
    let some : pos 1 ≤ℤ pos c.args.count = let h = c.requires.some in omega (arith, ints, h) in
    let P : ℤ → Type 0 = λ x. pos 1 ≤ℤ x in
    subst P (sym is) (one-le-mul (pos c.args.count) c.args.volume some c.requires.positive)
