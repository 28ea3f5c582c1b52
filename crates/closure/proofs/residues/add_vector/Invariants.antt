use Rattle.std.proofs.Common.{◌-◌, ◌<◌, ◌≤◌, All, map, vec_len}
use Rattle.symmetry.specs.Groups.{Listing}
use Rattle.motions.specs.Views.{parts}
use Rattle.closure.specs.Residues.{IsResidue}
use Rattle.closure.specs.Spans.{AreResiduesOf}
use Rattle.closure.proofs.Cosets.{AreCosets}
use Rattle.closure.proofs.residues.add_vector.Given as goal

abbrev pub invariant-loop-step : goal.invariant-loop-step
invariant-loop-step l = record {
  reduced : All IsResidue l.residues.items;
  step : IsResidue l.step;
  some : 0 < l.size;
  size : l.size ≤ vec_len l.residues;
  few : vec_len l.residues ≤ 64;
  cosets : (g : Listing) → AreResiduesOf g (map parts l.fn.residues.items)
      → AreCosets g (parts l.v) l.size (map parts l.residues.items) (parts l.step);
}

abbrev pub decreases-loop-step : goal.decreases-loop-step
decreases-loop-step l = 64 - vec_len l.residues
