use Rattle.std.proofs.Common.{ℤ, pos, ◌≤ℤ◌, ◌<ℤ◌}
use Rattle.fractions.specs.declared.part.TheConstants.{UNIT}
use Rattle.symmetry.specs.Groups.{IsInLattice}
use Rattle.motions.specs.Views.{row_of}
use Rattle.closure.specs.Groups.{group_listing}
use Rattle.line_frames.specs.Searches.{along_lines}
use Rattle.line_frames.proofs.directions.repeat_along.Given as goal

abbrev pub invariant-loop-n : goal.invariant-loop-n
invariant-loop-n l = record {
  from : pos 1 ≤ℤ l.n;
  most : l.n ≤ℤ UNIT;
  none : (m : ℤ) → pos 1 ≤ℤ m → m <ℤ l.n → ¬ IsInLattice (group_listing l.group) (along_lines (row_of l.plane) m);
}
