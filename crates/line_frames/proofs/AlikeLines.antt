-- Listings of one group have one frame of the lines.
use Rattle.std.proofs.Common.{ℤ}
use Rattle.symmetry.specs.Groups.{Listing}
use Rattle.symmetry.specs.Listings.{AreAlike}
use Rattle.motions.specs.PlaneMatrices.{Pair, in_space}
use Rattle.line_frames.specs.Lines.{times2, IsAlong, IsInPlaneLattice, IsLineFrame, IsLinePeriod}

module _ (g h : Listing) (alike : AreAlike g h) where
  in_to : (v : Pair) → IsInPlaneLattice g v → IsInPlaneLattice h v
  in_to v = (alike.lattice (in_space v)).0

  in_from : (v : Pair) → IsInPlaneLattice h v → IsInPlaneLattice g v
  in_from v = (alike.lattice (in_space v)).1

  along_from : (r a : Pair) → IsAlong h r a → IsAlong g r a
  along_from r a is = record {
    inside = λ n. in_from (times2 n a) (is.inside n);
    along = is.along;
    only = λ v within. is.only v (in_to v within);
  }

  along_to : (r a : Pair) → IsAlong g r a → IsAlong h r a
  along_to r a is = record {
    inside = λ n. in_to (times2 n a) (is.inside n);
    along = is.along;
    only = λ v within. is.only v (in_from v within);
  }

  line_period_from : (r : Pair) (d : ℤ) → IsLinePeriod h r d → IsLinePeriod g r d
  line_period_from r d is = record {
    positive = is.positive;
    taken = (is.taken.0, in_from is.taken.0 is.taken.1, is.taken.2);
    least = λ t within. is.least t (in_to t within);
  }

  pub line_frame_from : (r a tau : Pair) (d : ℤ) → IsLineFrame h r a tau d → IsLineFrame g r a tau d
  line_frame_from r a tau d is = record {
    along = along_from r a is.along;
    greater = λ b along. is.greater b (along_to r b along);
    period = line_period_from r d is.period;
    tau_in = in_from tau is.tau_in;
    tau_gives = is.tau_gives;
    reduced = is.reduced;
  }
