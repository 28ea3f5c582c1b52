-- The order of the heights is that of the numbers that they are made from.
use Rattle.std.proofs.Common.{ℤ, subst, to_z, of_z, FitsSigned}
use Rattle.std.specs.Int.{w128}
use Rattle.std.proofs.lemmas.Int.{to_z-of_z}
use Rattle.fractions.specs.Fraction.{Fraction}
use Rattle.fractions.specs.FractionOf.{fraction_of}
use Rattle.fractions.specs.LowestTerms.{IsLowestForm}
use Rattle.slabs.proofs.Orders.{ordered_forms}
use Rattle.slabs.proofs.tests.between.Goals as goal

-- the numbers went through 128 bits
form : (q : Fraction) (n d : ℤ) → FitsSigned w128 n → FitsSigned w128 d
    → IsLowestForm q (to_z w128 (of_z w128 n)) (to_z w128 (of_z w128 d)) → IsLowestForm q n d
form q n d num den is =
    let P : ℤ → Type 0 = λ x. IsLowestForm q x (to_z w128 (of_z w128 d)) in
    subst (IsLowestForm q n) (to_z-of_z w128 d den) (subst P (to_z-of_z w128 n num) is)

pub slab_at-requires-clause-order : goal.slab_at-requires-clause-order
slab_at-requires-clause-order c =
    ordered_forms (fraction_of c.ratio.result) (fraction_of c.ratio-2.result) c.args.num c.args.den c.args.end c.args.over
    (form _ _ _ c.ranges.num c.ranges.den c.ratio.ensures.form) (form _ _ _ c.ranges.end c.ranges.over c.ratio-2.ensures.form)
    c.requires.den_positive c.requires.over_positive c.requires.order
