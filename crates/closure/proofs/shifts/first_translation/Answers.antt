use Rattle.std.proofs.Common.{sym, ap, subst, ◌∙◌, arith}
use Rattle.motions.specs.Views.{parts}
use Rattle.closure.specs.Residues.{IsResidue}
use Rattle.closure.proofs.Homes.{first_takes, first_keeps}
use Rattle.closure.proofs.shifts.first_translation.Goals as goal
use Rattle.closure.proofs.shifts.first_translation.Goals.{then-comes_before, else-comes_before}

pub loop-r-preserved : goal.loop-r-preserved
loop-r-preserved c =
    let kept = c.loop-r.invariant in
    let other = c.residue_of_sum-other.ensures in
    let rs = c.args.residues.now in
    let i = c.loop-r.r-index in
    elim c.if-comes_before.branch [
      | then-comes_before w ↦ record {
        reduced = subst IsResidue (sym w.first-is) other.reduced;
        is = ap parts w.first-is ∙ first_takes rs i _ (omega arith) c.loop-r.first c.residue_of_sum-other.result kept.is other.value (sym c.comes_before.ensures ∙ w.if-comes_before.true);
      }
      | else-comes_before w ↦ record {
        reduced = subst IsResidue (sym w.first-is) kept.reduced;
        is = ap parts w.first-is ∙ first_keeps rs i _ (omega arith) c.loop-r.first c.residue_of_sum-other.result kept.is other.value (sym c.comes_before.ensures ∙ w.if-comes_before.false);
      }
    ]
