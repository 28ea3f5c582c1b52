use Rattle.std.proofs.Common.{◌<◌, ◌≤◌, All, map, take, vec_len}
use Rattle.motions.specs.Views.{parts}
use Rattle.closure.specs.Residues.{IsResidue}
use Rattle.closure.specs.Fineness.{centrings_alone}
use Rattle.closure.specs.Spans.{AreResiduesOf}
use Rattle.closure.proofs.residues.residues_of_sums.Given as goal

abbrev pub invariant-loop-v : goal.invariant-loop-v
invariant-loop-v l = record {
  reduced : All IsResidue l.residues.items;
  some : 0 < vec_len l.residues;
  few : vec_len l.residues ≤ 64;
  lattice : AreResiduesOf (centrings_alone (map parts (take l.v-index l.vectors))) (map parts l.residues.items);
}
