-- The three vectors of a RodFrame, and the frames that `RodFrame::make` gives.
use Rattle.symmetry.specs.Frames.{Basis}
use Rattle.closure.specs.declared.group.Group.{Group}
use Rattle.plane_lattice.specs.Coordinates.{vectors}
use Rattle.penetration.specs.declared.frame.RodBasis.{RodBasis}
use Rattle.penetration.specs.declared.frame.RodFrame.{RodFrame}
use Rattle.penetration.specs.FrameOf.{IsRodFrameOf}

abbrev pub basis_of_rod : RodFrame → Basis
basis_of_rod frame = vectors frame.a frame.b frame.axis

-- the frame is one that RodFrame::make gives for the group
abbrev pub IsRodMadeFor : Group → RodFrame → Type 0
IsRodMadeFor group frame = (basis : RodBasis) × IsRodFrameOf group frame.direction basis frame
