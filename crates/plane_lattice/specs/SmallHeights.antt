-- How large the numbers of a special height of planes or lines are.
use Rattle.std.specs.Prelude.{◌*◌, unsigned_abs}
use Rattle.fractions.specs.declared.part.TheConstants.{UNIT}
use Rattle.integers.specs.Size.{IsWithin}
use Rattle.symmetry.specs.Planes.{Height, IsHeight}
use Rattle.plane_lattice.specs.Bounds.{largest_period}

-- from 0 to below a period, in half parts
pub record IsSmallHeight (s : Height) : Type 0 where
  pub num : IsWithin (2 * largest_period) s.num
  pub den : IsWithin (2 * unsigned_abs UNIT) s.den
  pub above : IsHeight s
