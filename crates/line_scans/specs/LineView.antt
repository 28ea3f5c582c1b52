-- What a LineScan of the code says.
use Rattle.std.specs.Prelude.{◌≡◌, ℤ, map}
use Rattle.fractions.specs.FractionOf.{fraction_of}
use Rattle.fractions.specs.Fractions.{fraction_at}
use Rattle.symmetry.specs.Vectors.{Vector}
use Rattle.symmetry.specs.Frames.{Basis}
use Rattle.motions.specs.Views.{motion_of}
use Rattle.plane_motions.specs.PlaneMotions.{parts2, plane_of}
use Rattle.friezes.specs.Types.{change_of}
use Rattle.scanning.specs.declared.height.Height.{Height as SpecialHeight}
use Rattle.line_scans.specs.declared.scan.LineHeight.{LineHeight}
use Rattle.line_scans.specs.declared.scan.LineScan.{LineScan}
use Rattle.line_scans.specs.declared.scan.LineSection.{LineSection}
use Rattle.line_scans.specs.LineOps.{IsSectionOf, IsStep}
use Rattle.line_scans.specs.LineScans as lines

-- the operations and what was found
abbrev pub line_section_of : LineSection → lines.LineSection
line_section_of section = record { ops = map plane_of section.ops.items; found = change_of section.found }

-- a special height and its section
abbrev pub line_height_of : LineHeight → lines.LineHeight
line_height_of h = record { height = fraction_of h.s; section = line_section_of h.section }

-- the row, the frame of the lines, the vector c', the general section and the special heights
abbrev pub line_scan_of : LineScan → lines.LineScan
line_scan_of scan = record {
  row = record { x = scan.h; y = scan.k };
  a = parts2 scan.a;
  tau = parts2 scan.tau;
  period = scan.period.0;
  mean = record { x = fraction_at scan.c 0; y = fraction_at scan.c 1 };
  general = line_section_of scan.general;
  heights = map line_height_of scan.heights.items;
}

-- the special height of the lines is that of the planes, seen from its step
pub record IsLineHeightOf (r : Vector) (f : Basis) (d : ℤ) (h : SpecialHeight) (line : LineHeight) : Type 0 where
  pub height : fraction_of line.s ≡ fraction_of h.s
  pub step : ℤ
  pub is_step : IsStep d h.level step
  pub section : IsSectionOf r f step (map motion_of h.ops.items) line.section
