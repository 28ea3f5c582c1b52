use Rattle.std.proofs.Common.{◌≡◌, ◌≤◌, ◌++◌, All, map, take, vec_len}
use Rattle.motions.specs.Views.{parts}
use Rattle.closure.specs.Residues.{IsResidue}
use Rattle.closure.specs.Spans.{coset}
use Rattle.closure.proofs.residues.append_coset.Given as goal

abbrev pub invariant-loop-i : goal.invariant-loop-i
invariant-loop-i l = record {
  items : map parts l.residues.items ≡ map parts l.initial.residues.items ++ coset (parts l.step) (take l.i (map parts l.initial.residues.items));
  reduced : All IsResidue l.residues.items;
  longer : vec_len l.initial.residues ≤ vec_len l.residues;
}
