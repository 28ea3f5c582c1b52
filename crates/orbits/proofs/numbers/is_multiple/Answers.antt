use Rattle.orbits.proofs.Multiples.{is_multiple}
use Rattle.orbits.proofs.numbers.is_multiple.Goals as goal

pub returns : goal.returns
returns c = is_multiple c.args.x c.args.d c.ranges.x c.ranges.d c.requires
