-- A remainder other than 0 leaves no whole quotient.
use Rattle.std.proofs.Common.{sym, ap, ◌∙◌, of_z}
use Rattle.std.specs.Int.{w128}
use Rattle.std.specs.Prelude.{int_rem}
use Rattle.std.proofs.lemmas.Int.{to_z-of_z}
use Rattle.fractions.proofs.Multiples.{rem-multiple}
use Rattle.fractions.proofs.quotients.whole_quotient.Goals as goal

pub returns-else-num-den-eq0-clause-is : goal.returns-else-num-den-eq0-clause-is
returns-else-num-den-eq0-clause-is c q e =
    c.if-num-den-eq0.false
    (ap (of_z w128)
    ((λ i. int_rem (to_z-of_z w128 c.args.num c.ranges.num i) (to_z-of_z w128 c.args.den c.ranges.den i))
    ∙ ap (λ x. int_rem x c.args.den) (sym e) ∙ rem-multiple c.args.den q c.requires))
