use Rattle.std.proofs.Common.{ℤ, pos, ◌≤ℤ◌, ◌<ℤ◌}
use Rattle.fractions.specs.declared.part.TheConstants.{UNIT}
use Rattle.symmetry.specs.Vectors.{Vector}
use Rattle.motions.specs.Views.{row_of}
use Rattle.closure.specs.Groups.{group_listing}
use Rattle.line_frames.specs.Searches.{IsAt}
use Rattle.line_frames.proofs.members.first_above.Given as goal

abbrev pub invariant-loop-d : goal.invariant-loop-d
invariant-loop-d l = record {
  from : pos 1 ≤ℤ l.d;
  most : l.d ≤ℤ UNIT;
  none : (d : ℤ) → pos 1 ≤ℤ d → d <ℤ l.d → ¬ ((v : Vector) × IsAt (group_listing l.group) (row_of l.plane) d v);
}
