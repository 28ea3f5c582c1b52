-- How large the counts become.
use Rattle.std.specs.Prelude.{ℕ, ◌*◌, ◌≤◌, unsigned_abs}
use Rattle.fractions.specs.declared.part.TheConstants.{UNIT}
use Rattle.sample.specs.declared.counts.Counts.{Counts}

-- the special heights from 0 to below 1, which are whole numbers of half parts
abbrev pub most_heights : ℕ
most_heights = 2 * unsigned_abs UNIT

-- each count is at most the bound
pub record AreCountsWithin (bound : ℕ) (c : Counts) : Type 0 where
  pub groups : c.groups ≤ bound
  pub special : c.special ≤ bound
  pub sections : c.sections ≤ bound
  pub own : c.own ≤ bound
  pub unrecognised : c.unrecognised ≤ bound
