use Rattle.plane_lattice.proofs.FrameListings.{one_frame_fault}
use Rattle.plane_lattice.proofs.laws.one_frame_fault.Goals as goal

pub returns : goal.returns
returns c = one_frame_fault
