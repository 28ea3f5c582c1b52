use Rattle.std.proofs.Common.{All, arith, sym, subst}
use Rattle.std.proofs.lemmas.List.Elements.{All-push}
use Rattle.closure.specs.Residues.{IsResidue}
use Rattle.closure.proofs.Growth.{coset_more}
use Rattle.closure.proofs.residues.append_coset.Goals as goal

pub loop-i-preserved : goal.loop-i-preserved
loop-i-preserved c =
    let kept = c.loop-i.invariant in
    let sum = c.residue_of_sum-sum.ensures in
    let items = c.in_ok-push.ensures.items in
    record {
      items = coset_more c.args.residues.now.items c.loop-i.residues.items c.push.new.self.items _ c.loop-i.i c.index.result.now c.residue_of_sum-sum.result
          kept.items (omega arith) c.index.ensures sum.value items;
      reduced = subst (All IsResidue) (sym items) (All-push IsResidue c.loop-i.residues.items c.residue_of_sum-sum.result kept.reduced sum.reduced);
      longer = let len = c.in_ok-push.ensures.len in omega arith;
    }
