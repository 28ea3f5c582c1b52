use Rattle.std.proofs.Common.{arith, map, refl, subst, sym, ◌∙◌}
use Rattle.std.specs.Prelude.{All}
use Rattle.std.proofs.lemmas.List.{take_all}
use Rattle.std.proofs.lemmas.List.Elements.{All-push}
use Rattle.integers.proofs.Coded.{again}
use Rattle.motions.specs.ListedSizes.{IsSmallWithin}
use Rattle.motions.specs.Views.{motion_of}
use Rattle.report.specs.TypeTexts.{block_of_layer}
use Rattle.sample.specs.Shears.{sheared}
use Rattle.sample.proofs.Listed.{one_more}
use Rattle.sample.proofs.ShearSizes.{there_again}
use Rattle.sample.proofs.group.operations.Goals as goal

pub loop-m-preserved : goal.loop-m-preserved
loop-m-preserved c = record {
  is = one_more (again c.args.j) (again c.args.j) refl c.loop-m.motions.items _ c.operation.result c.args.ops.now c.loop-m.m-index _ (omega arith)
      c.loop-m.invariant.is c.in_ok-push.ensures.items c.operation.ensures.is;
  small = subst (All (λ m. IsSmallWithin 50 (motion_of m))) (sym c.in_ok-push.ensures.items)
      (All-push (λ m. IsSmallWithin 50 (motion_of m)) c.loop-m.motions.items c.operation.result c.loop-m.invariant.small c.operation.ensures.small);
}

pub returns-clause-is : goal.returns-clause-is
returns-clause-is c =
    c.loop-m.invariant.is
    ∙ (λ i. map (λ m. sheared (there_again c.args.j c.requires.shear i) (block_of_layer m)) (take_all c.loop-m.m-index c.args.ops.now c.loop-m-test.false i))
