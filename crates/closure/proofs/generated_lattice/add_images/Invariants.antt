use Rattle.std.proofs.Common.{◌-◌, All, map, vec_len}
use Rattle.symmetry.specs.Groups.{Listing}
use Rattle.motions.specs.Views.{motion_of, parts}
use Rattle.closure.specs.Generated.{AllInvertible, InGeneratedLattice, IsGenerated}
use Rattle.closure.specs.Searches.{IsMoreThan, IsStore}
use Rattle.closure.proofs.generated_lattice.add_images.Given as goal

abbrev pub invariant-loop-v : goal.invariant-loop-v
invariant-loop-v l = record {
  store : IsStore l.residues.items;
  more : IsMoreThan (map parts l.fn.residues.items) (map parts l.residues.items);
  inside : (g : Listing) → AllInvertible g → All (IsGenerated g) (map motion_of l.list) → All (InGeneratedLattice g) (map parts l.fn.residues.items)
      → All (InGeneratedLattice g) (map parts l.residues.items);
}

abbrev pub decreases-loop-v : goal.decreases-loop-v
decreases-loop-v l = 64 - vec_len l.residues
