-- The grid of origins.
use Rattle.std.specs.Prelude.{ℕ, ◌*◌, unsigned_abs}
use Rattle.fractions.specs.declared.part.TheConstants.{UNIT}

-- origins are counted in parts of which a cell edge has this many
abbrev pub grid : ℕ
grid = 12 * unsigned_abs UNIT
