use Rattle.std.proofs.Common.{◌≡◌, map, take}
use Rattle.motions.specs.Views.{parts}
use Rattle.closure.specs.Residues.{IsResidue}
use Rattle.closure.specs.Lattices.{first_with}
use Rattle.closure.proofs.shifts.first_translation.Given as goal

abbrev pub invariant-loop-r : goal.invariant-loop-r
invariant-loop-r l = record {
  reduced : IsResidue l.first;
  is : parts l.first ≡ first_with (parts l.t) (map parts (take l.r-index l.residues));
}
