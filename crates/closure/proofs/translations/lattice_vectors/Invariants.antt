use Rattle.std.proofs.Common.{◌^◌, All, map, take}
use Rattle.symmetry.specs.Sizes.{IsVectorWithin}
use Rattle.motions.specs.Views.{motion_of, parts}
use Rattle.closure.proofs.Generators.{CollectsTranslations}
use Rattle.closure.proofs.translations.lattice_vectors.Given as goal

abbrev pub invariant-loop-m : goal.invariant-loop-m
invariant-loop-m l = record {
  small : All (λ v. IsVectorWithin (2 ^ 40) (parts v)) l.vectors.items;
  collected : CollectsTranslations (map parts l.listed.centrings.items) (map motion_of (take l.m-index l.listed.ops.items)) (map parts l.vectors.items);
}
