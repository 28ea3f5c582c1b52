use Rattle.std.proofs.Common.{ap}
use Rattle.symmetry.specs.Vectors.{Vector}
use Rattle.line_scans.proofs.tests.lines_of_p2mg.Goals as goal

pub lines-requires-clause-line : goal.lines-requires-clause-line
lines-requires-clause-line c = ap (λ (v : Vector). v.z) c.in_ok-plane.ensures.ok
