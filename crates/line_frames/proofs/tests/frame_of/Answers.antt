-- The third index is 0.
use Rattle.std.proofs.Common.{ap}
use Rattle.symmetry.specs.Vectors.{Vector}
use Rattle.line_frames.proofs.tests.frame_of.Goals as goal

pub line_frame-requires-clause-line : goal.line_frame-requires-clause-line
line_frame-requires-clause-line c = ap (λ (v : Vector). v.z) c.in_ok-plane.ensures.ok
