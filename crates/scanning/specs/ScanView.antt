-- What a Scan of the code says.
use Rattle.std.specs.Prelude.{◌≡◌, map}
use Rattle.symmetry.specs.Groups.{Listing}
use Rattle.symmetry.specs.Scans.{IsScan, Scan as ScanOfPlanes}
use Rattle.motions.specs.Views.{motion_of, row_of}
use Rattle.plane_lattice.specs.FrameView.{basis_of_frame}
use Rattle.plane_lattice.specs.declared.frame.Frame.{Frame}
use Rattle.scanning.specs.HeightView.{specials_of}
use Rattle.scanning.specs.declared.scan.Scan.{Scan}

-- the general operations and the special heights
abbrev pub scan_of : Scan → ScanOfPlanes
scan_of scan = record { general = map motion_of scan.general.items; special = specials_of scan.special.items }

-- the scan is that of what is listed, in its frame
abbrev pub HasScan : Listing → Scan → Type 0
HasScan g scan = IsScan g (row_of scan.frame.plane) (basis_of_frame scan.frame) (scan_of scan)

-- the same where the frame is this one
pub record IsScanOf (g : Listing) (frame : Frame) (scan : Scan) : Type 0 where
  pub frame_is : scan.frame ≡ frame
  pub is : IsScan g (row_of frame.plane) (basis_of_frame frame) (scan_of scan)
