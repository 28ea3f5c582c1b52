-- The loop keeps the least so far.
use Rattle.std.proofs.Common.{◌<ℤ◌, ◌≤ℤ◌, pos, inr, List, [], get_or, map, ◌+◌, sym, subst, arith}
use Rattle.std.specs.Prelude.{Contains}
use Rattle.std.proofs.lemmas.Int.{ints}
use Rattle.fractions.specs.declared.part.Part.{Part}
use Rattle.fractions.specs.declared.part.TheConstants.{UNIT}
use Rattle.motions.specs.Views.{parts}
use Rattle.reduction.specs.LeadingEntries.{leading_entry}
use Rattle.reduction.proofs.LeastEntries.{IsLeast, least_takes, least_keeps, listed}
use Rattle.reduction.proofs.leading.least_along.Goals as goal
use Rattle.reduction.proofs.leading.least_along.Goals.{then-is_less_along, else-is_less_along}

pub loop-r-preserved : goal.loop-r-preserved
loop-r-preserved c =
    let old = c.loop-r.invariant in
    let rs = c.args.residues.now in
    let p = c.args.place in
    let i = c.loop-r.r-index in
    let within = c.loop-r-test.true in
    let best = c.loop-r.least in
    elim c.if-is_less_along.branch [
      | then-is_less_along w ↦ (let better = c.is_less_along.ensures.0 w.if-is_less_along.true in record {
        one = inr (subst (λ (r : List Part). Contains (map parts rs) (parts r)) (sym w.least-is) (listed rs p i within best old.least));
        positive = subst (λ (r : List Part). pos 0 <ℤ leading_entry p (parts r)) (sym w.least-is) better.0;
        most = subst (λ (r : List Part). leading_entry p (parts r) ≤ℤ UNIT) (sym w.least-is) (omega (arith, ints, better.1, old.most));
        least = subst (λ (r : List Part). IsLeast rs p (i + 1) r) (sym w.least-is) (least_takes rs p i within best old.least better.1);
      })
      | else-is_less_along w ↦ (let r = get_or rs i [] in let not : ¬ ((pos 0 <ℤ leading_entry p (parts r)) × (leading_entry p (parts r) <ℤ leading_entry p (parts best))) = λ both. cc (w.if-is_less_along.false, c.is_less_along.ensures.1 both) in record {
        one = rw w.least-is old.one;
        positive = rw w.least-is old.positive;
        most = rw w.least-is old.most;
        least = subst (λ (r : List Part). IsLeast rs p (i + 1) r) (sym w.least-is) (least_keeps rs p i within best old.least not);
      })
    ]
