-- The report of a group, an orientation and a frame.
use Rattle.std.specs.Prelude.{◌≡◌, ℕ, ℤ, List, Option, All, map}
use Rattle.fractions.specs.Fractions.{Fractions}
use Rattle.fractions.specs.LowestTerms.{IsLowestForm}
use Rattle.symmetry.specs.Vectors.{Vector}
use Rattle.symmetry.specs.Motions.{Motion, Point}
use Rattle.symmetry.specs.Planes.{Height}
use Rattle.symmetry.specs.Groups.{Listing}
use Rattle.symmetry.specs.Frames.{Basis, IsPeriod, mean_of}
use Rattle.symmetry.specs.Lists.{AreScanning}
use Rattle.symmetry.specs.Scans.{IsScan, Scan, SpecialHeight}
use Rattle.symmetry.specs.Orbits.{AreOrbitNumbers, IsPlaneCount}
use Rattle.recognition.specs.Order.{Change}
use Rattle.report.specs.FoundChanges.{IsGeneralType, IsTypeAt}

-- what is shown of a class of heights: the operations, and the change of their section onto a layer type
pub record Section : Type 0 where
  pub ops : List Motion
  pub found : Option Change

-- a special height, the number of its orbit, and its section
pub record HeightBlock : Type 0 where
  pub height : Height
  pub orbit : ℕ
  pub section : Section

-- what a report says: the orientation, the period in parts, the frame, the vector c', how many planes from 0 to below the
-- period are in the orbit of a general one, the general section, and the special heights
pub record Report : Type 0 where
  pub row : Vector
  pub period : ℤ
  pub basis : Basis
  pub mean : Fractions
  pub planes : ℕ
  pub general : Section
  pub heights : List HeightBlock

-- the point in lowest terms
pub record IsPointInLowestTerms (p : Point) (v : Fractions) : Type 0 where
  pub x : IsLowestForm v.x p.at.x p.over
  pub y : IsLowestForm v.y p.at.y p.over
  pub z : IsLowestForm v.z p.at.z p.over

-- the vector c': the mean of e W tau over the scanning operations, in cell edges
pub record IsMean (g : Listing) (r tau : Vector) (v : Fractions) : Type 0 where
  pub scanning : List Motion
  pub are_scanning : AreScanning g r scanning
  pub is : IsPointInLowestTerms (mean_of r tau scanning) v

-- a special height of a report without its orbit
abbrev pub special_of_block : HeightBlock → SpecialHeight
special_of_block block = record { height = block.height; ops = block.section.ops }

-- the heights of a report
abbrev pub block_heights : List HeightBlock → List Height
block_heights blocks = map (λ (block : HeightBlock). block.height) blocks

-- the numbers of their orbits
abbrev pub block_orbits : List HeightBlock → List ℕ
block_orbits blocks = map (λ (block : HeightBlock). block.orbit) blocks

-- the scan that a report shows
abbrev pub scan_of_report : Report → Scan
scan_of_report report = record { general = report.general.ops; special = map special_of_block report.heights }

-- the report of the group and the orientation in the frame
pub record IsReport (g : Listing) (r : Vector) (f : Basis) (report : Report) : Type 0 where
  pub row : report.row ≡ r
  pub basis : report.basis ≡ f
  pub period : IsPeriod g r report.period
  pub mean : IsMean g r f.tau report.mean
  pub scan : IsScan g r f (scan_of_report report)
  pub orbits : AreOrbitNumbers g r (block_heights report.heights) (block_orbits report.heights)
  pub planes : IsPlaneCount g r report.period report.planes
  pub general_type : IsGeneralType g r f report.general.found
  pub types : All (λ (block : HeightBlock). IsTypeAt g r f block.height block.section.found) report.heights
