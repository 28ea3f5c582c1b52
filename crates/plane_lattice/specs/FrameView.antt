-- The three vectors of a Frame.
use Rattle.plane_lattice.specs.declared.frame.Frame.{Frame}
use Rattle.symmetry.specs.Frames.{Basis}
use Rattle.plane_lattice.specs.Coordinates.{vectors}

abbrev pub basis_of_frame : Frame → Basis
basis_of_frame frame = vectors frame.a frame.b frame.tau
