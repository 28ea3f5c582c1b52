use Rattle.std.proofs.Common.{◌≡◌, ℤ, pos, ◌≤ℤ◌, ◌<ℤ◌}
use Rattle.symmetry.specs.Vectors.{Vector}
use Rattle.motions.specs.Views.{parts, row_of}
use Rattle.closure.specs.Groups.{group_listing}
use Rattle.line_frames.specs.Searches.{coordinate, IsAt}
use Rattle.line_frames.proofs.members.member_at.Given as goal

abbrev pub invariant-loop-t : goal.invariant-loop-t
invariant-loop-t l = record {
  from : pos 0 ≤ℤ l.t;
  end : l.t-end ≡ coordinate (row_of l.plane) (parts l.a);
  none : (t : ℤ) → pos 0 ≤ℤ t → t <ℤ l.t → ¬ ((v : Vector) × IsAt (group_listing l.group) (row_of l.plane) l.d v × (coordinate (row_of l.plane) v ≡ t));
}
