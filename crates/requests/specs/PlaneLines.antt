-- The frieze groups of all lines of a plane group.
use Rattle.std.specs.Prelude.{◌≡◌, ℕ, List}
use Rattle.symmetry.specs.Vectors.{Vector}
use Rattle.symmetry.specs.Groups.{Listing}
use Rattle.line_frames.specs.Lines.{first_two}
use Rattle.line_scans.specs.LineScans.{IsLineScan, LineScan}
use Rattle.line_reports.specs.LineTexts.{lines_text}

-- the text is that of the scan of the lines (hk)
pub record IsLinesAnswer (g : Listing) (row : Vector) (text : List ℕ) : Type 0 where
  pub scan : LineScan
  pub is_scan : IsLineScan g (first_two row) scan
  pub is_text : text ≡ lines_text scan
