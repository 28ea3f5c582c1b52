use Rattle.symmetry.proofs.FrameLaws.{frame_period, lattice_periods, plane_lattice}
use Rattle.symmetry.proofs.frames.frame_gives.Goals as goal

pub returns-clause-period : goal.returns-clause-period
returns-clause-period c = frame_period

pub returns-clause-multiples : goal.returns-clause-multiples
returns-clause-multiples c = lattice_periods

pub returns-clause-plane : goal.returns-clause-plane
returns-clause-plane c = plane_lattice
