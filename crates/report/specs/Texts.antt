-- What is written of the planes of an orientation.
use Rattle.std.specs.Prelude.{ℕ, List, [], ◌++◌, Option, Some, None, codes, decimal, flat_map}
use Rattle.std.specs.Fmt.{signed_decimal}
use Rattle.fractions.specs.Fractions.{Fractions}
use Rattle.fractions.specs.RatioText.{ratio_text}
use Rattle.symmetry.specs.Vectors.{Vector}
use Rattle.symmetry.specs.Motions.{Motion}
use Rattle.symmetry.specs.Frames.{Basis}
use Rattle.symmetry.specs.Planes.{Height}
use Rattle.triplets.specs.Writing.{number_text, triplet_text, number_line}
use Rattle.layer_types.specs.Rows.{layer_row}
use Rattle.recognition.specs.Order.{Change}
use Rattle.report.specs.Reports.{HeightBlock, Report}
use Rattle.report.specs.TypeVectors.{first_vector, lowest_point, origin_at_height, origin_in_plane, second_vector, third_vector}

-- the line of an operation
abbrev pub operation_line : Motion → List ℕ
operation_line m = codes "op " ++ triplet_text m ++ codes "\n"

-- the height, the operations, one a line, and the end
abbrev pub at_text : Height → List Motion → List ℕ
at_text s ops = codes "height " ++ ratio_text s ++ codes "\n" ++ flat_map operation_line ops ++ codes "end\n"

-- three numbers with a blank before each
abbrev pub indices_text : Vector → List ℕ
indices_text v = codes " " ++ signed_decimal v.x ++ codes " " ++ signed_decimal v.y ++ codes " " ++ signed_decimal v.z

-- the line of an image of an orientation
abbrev pub image_line : Vector → List ℕ
image_line v = codes "image" ++ indices_text v ++ codes "\n"

-- the images, one a line, and the end
abbrev pub images_text : List Vector → List ℕ
images_text rows = flat_map image_line rows ++ codes "end\n"

-- a vector in parts, as three ratios of the cell edges
abbrev pub vector_text : Vector → List ℕ
vector_text v = number_text v.x ++ codes "," ++ number_text v.y ++ codes "," ++ number_text v.z

-- a vector in cell edges, as three ratios
abbrev pub fractions_text : Fractions → List ℕ
fractions_text v = ratio_text v.x ++ codes "," ++ ratio_text v.y ++ codes "," ++ ratio_text v.z

-- the vectors a, b and tau of a frame, in one line
abbrev pub frame_line : Basis → List ℕ
frame_line f = vector_text f.a ++ codes " " ++ vector_text f.b ++ codes " " ++ vector_text f.tau ++ codes "\n"

-- the lines of the orientation, the period and the vectors of the frame
unfoldable pub frame_text : Report → List ℕ
frame_text report =
    codes "plane" ++ indices_text report.row ++ codes "\n" ++
    codes "period " ++ number_text report.period ++ codes "\n" ++
    codes "a " ++ vector_text report.basis.a ++ codes "\n" ++
    codes "b " ++ vector_text report.basis.b ++ codes "\n" ++
    codes "tau " ++ vector_text report.basis.tau ++ codes "\n" ++
    codes "c " ++ fractions_text report.mean ++ codes "\n"

-- its two vectors in the plane, in parts, and the third one
unfoldable pub basis_line : Vector → Vector → Fractions → List ℕ
basis_line first second third =
    codes "basis " ++ vector_text first ++ codes " " ++ vector_text second ++ codes " " ++ fractions_text third ++ codes "\n"

-- its origin, with what stands behind it
unfoldable pub origin_line : Fractions → List ℕ → List ℕ
origin_line origin behind = codes "origin " ++ fractions_text origin ++ behind ++ codes "\n"

-- the lines of a type, by the change that was found
abbrev pub named_lines : Basis → Fractions → Fractions → List ℕ → Change → List ℕ
named_lines f mean origin behind c =
    number_line c.number (layer_row c.number).symbol ++
    basis_line (first_vector f c) (second_vector f c) (third_vector mean c) ++ origin_line origin behind

-- the lines of the type of the general section, at any height s
abbrev pub general_type_lines : Report → Option Change → List ℕ
general_type_lines report None = codes "type unrecognised\n"
general_type_lines report (Some c) =
    named_lines report.basis report.mean (lowest_point (origin_in_plane report.basis c)) (codes " + s/d c") c

-- the lines of the type of the section of a special height
abbrev pub type_lines : Report → Height → Option Change → List ℕ
type_lines report s None = codes "type unrecognised\n"
type_lines report s (Some c) =
    named_lines report.basis report.mean (lowest_point (origin_at_height report.period s report.basis c)) [] c

-- the lines of the general planes
abbrev pub general_text : Report → List ℕ
general_text report =
    codes "general planes " ++ decimal report.planes ++ codes "\n" ++ general_type_lines report report.general.found ++
    flat_map operation_line report.general.ops

-- the lines of a special height
abbrev pub height_text : Report → HeightBlock → List ℕ
height_text report block =
    codes "height " ++ ratio_text block.height ++ codes " orbit " ++ decimal block.orbit ++ codes "\n" ++
    type_lines report block.height block.section.found ++ flat_map operation_line block.section.ops

-- the text of a report: the frame, the general block, a block for each special height, and the end
abbrev pub report_text : Report → List ℕ
report_text report = frame_text report ++ general_text report ++ flat_map (height_text report) report.heights ++ codes "end\n"
