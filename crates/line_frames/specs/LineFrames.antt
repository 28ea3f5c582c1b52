-- What line_frame gives.
use Rattle.std.specs.Prelude.{◌≡◌, ◌⊎◌, pos, List}
use Rattle.symmetry.specs.Frames.{IsFrame, IsPeriod, mean_of}
use Rattle.symmetry.specs.Groups.{Listing, third_edge}
use Rattle.symmetry.specs.Lists.{AreScanning}
use Rattle.symmetry.specs.Motions.{Motion}
use Rattle.symmetry.specs.Vectors.{opposite}
use Rattle.motions.specs.Views.{parts, row_of}
use Rattle.motions.specs.declared.miller.Miller.{Miller}
use Rattle.plane_lattice.specs.FrameView.{basis_of_frame}
use Rattle.plane_lattice.specs.Scanning.{IsPointOf}
use Rattle.plane_lattice.specs.declared.frame.Frame.{Frame}
use Rattle.line_frames.specs.Lines.{IsLineFrame, first_two}

-- the frame of what is listed and the planes (h k 0), skewed or not, in which a and tau are those of the lines (h k) and b
-- is the third edge or its opposite; with the period and the vector c', the mean over the scanning operations
pub record IsLineFrameOf (g : Listing) (orientation : Miller) (frame : Frame) : Type 0 where
  pub plane : frame.plane ≡ orientation
  pub is_frame : IsFrame g (row_of orientation) (basis_of_frame frame)
  pub period : IsPeriod g (row_of orientation) frame.period.0
  pub scanning : List Motion
  pub are_scanning : AreScanning g (row_of orientation) scanning
  pub mean : IsPointOf (mean_of (row_of orientation) (parts frame.tau) scanning) frame.c
  pub a_flat : (parts frame.a).z ≡ pos 0
  pub tau_flat : (parts frame.tau).z ≡ pos 0
  pub across : (parts frame.b ≡ third_edge) ⊎ (parts frame.b ≡ opposite third_edge)
  pub line : IsLineFrame g (first_two (row_of orientation)) (first_two (parts frame.a)) (first_two (parts frame.tau)) frame.period.0
