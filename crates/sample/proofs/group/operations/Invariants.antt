use Rattle.std.proofs.Common.{◌≡◌, map, take}
use Rattle.std.specs.Prelude.{All}
use Rattle.motions.specs.ListedSizes.{IsSmallWithin}
use Rattle.motions.specs.Views.{motion_of}
use Rattle.report.specs.TypeTexts.{block_of_layer}
use Rattle.sample.specs.Shears.{sheared}
use Rattle.sample.proofs.group.operations.Given as goal

abbrev pub invariant-loop-m : goal.invariant-loop-m
invariant-loop-m l = record {
  is : map motion_of l.motions.items ≡ map (λ m. sheared l.fn.j (block_of_layer m)) (take l.m-index l.ops);
  small : All (λ m. IsSmallWithin 50 (motion_of m)) l.motions.items;
}
