-- One residue after the other.
use Rattle.std.proofs.Common.{FitsSigned, arith, map, rules, w64}
use Rattle.std.proofs.lemmas.List.{length-map}
use Rattle.motions.specs.Views.{parts, row_of}
use Rattle.closure.specs.Groups.{group_listing}
use Rattle.surveys.proofs.LatticeNumbers.{all_residues, divisor_begins, divisor_is_period, divisor_with}
use Rattle.surveys.proofs.periods.period.Goals as goal

pub loop-v-init : goal.loop-v-init
loop-v-init c = divisor_begins (group_listing c.args.group.now) (row_of c.args.plane.now) (map parts c.residues-v-items.result.now) c.args.plane.now.coprime

pub loop-v-preserved : goal.loop-v-preserved
loop-v-preserved c =
    let fits : FitsSigned w64 c.height_of.result = search rules in
    let next = c.common_divisor-period.ensures in
    divisor_with (group_listing c.args.group.now) c.lattice.result.now c.lattice.ensures.same c.residues-v-items.result.now c.residues-v-items.ensures.residues
    (row_of c.args.plane.now) c.residues-v-items.ensures.reduced c.loop-v.v-index _ c.loop-v-test.true _ c.common_divisor-period.result c.height_of.result
    c.loop-v.invariant fits c.height_of.ensures next.is next.from next.most

pub returns-clause-is : goal.returns-clause-is
returns-clause-is c =
    divisor_is_period (group_listing c.args.group.now) (row_of c.args.plane.now) (map parts c.residues-v-items.result.now) c.loop-v.v-index _ c.loop-v.invariant
    (omega (arith, c.loop-v-test.false, length-map c.residues-v-items.result.now parts))
    (all_residues (group_listing c.args.group.now) c.lattice.result.now c.lattice.ensures.same c.residues-v-items.result.now c.residues-v-items.ensures.residues)
