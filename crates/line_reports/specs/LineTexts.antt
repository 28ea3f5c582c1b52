-- What is written of the lines of a plane group.
use Rattle.std.specs.Prelude.{ℕ, List, [], ◌++◌, codes, flat_map}
use Rattle.std.specs.Fmt.{signed_decimal}
use Rattle.fractions.specs.RatioText.{ratio_text}
use Rattle.motions.specs.PlaneMatrices.{Pair}
use Rattle.plane_motions.specs.PlaneMotions.{PlaneMotion}
use Rattle.triplets.specs.Writing.{number_text, pair_text, number_line}
use Rattle.line_types.specs.FriezeRows.{frieze_row}
use Rattle.line_scans.specs.LineScans.{LineHeight, LineScan, LineSection, TwoFractions}
use Rattle.line_reports.specs.LineOrigins.{lowest_point2, origin_along, origin_at_height}

-- two numbers with a blank before each
abbrev pub indices_text : Pair → List ℕ
indices_text v = codes " " ++ signed_decimal v.x ++ codes " " ++ signed_decimal v.y

-- a vector in parts, as two ratios of the cell edges
abbrev pub vector_text : Pair → List ℕ
vector_text v = number_text v.x ++ codes "," ++ number_text v.y

-- a vector in cell edges, as two ratios
abbrev pub fractions_text : TwoFractions → List ℕ
fractions_text v = ratio_text v.x ++ codes "," ++ ratio_text v.y

-- the lines of the indices, the period, and the vectors a, tau and c'
unfoldable pub frame_text : LineScan → List ℕ
frame_text scan =
    codes "line" ++ indices_text scan.row ++ codes "\n" ++
    codes "period " ++ number_text scan.period ++ codes "\n" ++
    codes "a " ++ vector_text scan.a ++ codes "\n" ++
    codes "tau " ++ vector_text scan.tau ++ codes "\n" ++
    codes "c " ++ fractions_text scan.mean ++ codes "\n"

-- its basis: a in parts, and c'
unfoldable pub basis_line : Pair → TwoFractions → List ℕ
basis_line along across = codes "basis " ++ vector_text along ++ codes " " ++ fractions_text across ++ codes "\n"

-- its origin, with what stands behind it
unfoldable pub origin_line : TwoFractions → List ℕ → List ℕ
origin_line origin behind = codes "origin " ++ fractions_text origin ++ behind ++ codes "\n"

-- the line of an operation
abbrev pub operation_line : PlaneMotion → List ℕ
operation_line m = codes "op " ++ pair_text m ++ codes "\n"

-- the lines of a section: its frieze type, and its operations
abbrev pub section_lines : LineScan → TwoFractions → List ℕ → LineSection → List ℕ
section_lines scan origin behind section =
    (number_line section.found.number (frieze_row section.found.number).symbol ++
    basis_line scan.a scan.mean ++ origin_line origin behind) ++ flat_map operation_line section.ops

-- the lines of the general section, at any height s
abbrev pub general_text : LineScan → List ℕ
general_text scan =
    codes "general\n" ++
    section_lines scan (lowest_point2 (origin_along scan.a scan.general.found)) (codes " + s/d c") scan.general

-- the lines of a special height
abbrev pub height_text : LineScan → LineHeight → List ℕ
height_text scan h =
    codes "height " ++ ratio_text h.height ++ codes "\n" ++
    section_lines scan (lowest_point2 (origin_at_height scan.period h.height scan.a scan.tau h.section.found)) [] h.section

-- the text of a scan of lines: the frame, the general block, a block for each special height, and the end
abbrev pub lines_text : LineScan → List ℕ
lines_text scan = frame_text scan ++ general_text scan ++ flat_map (height_text scan) scan.heights ++ codes "end\n"
