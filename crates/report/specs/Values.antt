-- The JSON value of a report, and its text.
use Rattle.std.specs.Prelude.{ℕ, List, ◌++◌, Option, Some, None, codes, map}
use Rattle.serde_json.specs.Data.{Data, array, item, member, no_items, no_members, null, number, object, string, unsigned}
use Rattle.serde_json.specs.Find.{of_integer}
use Rattle.serde_json.specs.View.{items_of}
use Rattle.serde_json.specs.Written.{compact_text}
use Rattle.fractions.specs.Fractions.{Fractions}
use Rattle.fractions.specs.RatioText.{ratio_text}
use Rattle.symmetry.specs.Vectors.{Vector}
use Rattle.symmetry.specs.Motions.{Motion}
use Rattle.symmetry.specs.Frames.{Basis}
use Rattle.symmetry.specs.Planes.{Height}
use Rattle.triplets.specs.Writing.{number_text, triplet_text}
use Rattle.layer_types.specs.Rows.{layer_row}
use Rattle.recognition.specs.Order.{Change}
use Rattle.report.specs.Reports.{HeightBlock, Report}
use Rattle.report.specs.Texts.{fractions_text, vector_text}
use Rattle.report.specs.TypeVectors.{first_vector, lowest_point, origin_at_height, origin_in_plane, second_vector, third_vector}

-- a list of three values
abbrev pub triple : Data → Data → Data → Data
triple x y z = array (item x (item y (item z no_items)))

-- a vector in parts
unfoldable pub vector_data : Vector → Data
vector_data v = string (vector_text v)

-- a vector in cell edges
unfoldable pub fractions_data : Fractions → Data
fractions_data v = string (fractions_text v)

-- three whole numbers
unfoldable pub indices_data : Vector → Data
indices_data v = triple (number (of_integer v.x)) (number (of_integer v.y)) (number (of_integer v.z))

-- the coordinate triplets of the operations
unfoldable pub operations_data : List Motion → Data
operations_data ops = array (items_of (map (λ m. string (triplet_text m)) ops))

-- a type, by the change that was found: its basis, number, origin and symbol
unfoldable pub named_data : Basis → Fractions → Fractions → Change → Data
named_data f mean origin c =
    object (member (codes "basis") (triple (vector_data (first_vector f c)) (vector_data (second_vector f c)) (fractions_data (third_vector mean c)))
    (member (codes "number") (number (unsigned c.number))
    (member (codes "origin") (fractions_data origin)
    (member (codes "symbol") (string (layer_row c.number).symbol) no_members))))

-- the type of the general section, or null where none was found. At the height s its origin lies (s/d) c' above the one given
abbrev pub general_type_data : Report → Option Change → Data
general_type_data report None = null
general_type_data report (Some c) = named_data report.basis report.mean (lowest_point (origin_in_plane report.basis c)) c

-- the type of the section of a special height, or null where none was found
abbrev pub type_data : Report → Height → Option Change → Data
type_data report s None = null
type_data report s (Some c) =
    named_data report.basis report.mean (lowest_point (origin_at_height report.period s report.basis c)) c

-- the general planes: the operations, how many planes from 0 to below the period are in one orbit, and the type
unfoldable pub general_data : Report → Data
general_data report =
    object (member (codes "ops") (operations_data report.general.ops)
    (member (codes "planes") (number (unsigned report.planes))
    (member (codes "type") (general_type_data report report.general.found) no_members)))

-- a special height: the operations, the number of its orbit, and the type
unfoldable pub height_data : Report → HeightBlock → Data
height_data report block =
    object (member (codes "height") (string (ratio_text block.height))
    (member (codes "ops") (operations_data block.section.ops)
    (member (codes "orbit") (number (unsigned block.orbit))
    (member (codes "type") (type_data report block.height block.section.found) no_members))))

-- the value of a report: the frame, the general planes, and the special heights
unfoldable pub report_data : Report → Data
report_data report =
    object (member (codes "a") (vector_data report.basis.a)
    (member (codes "b") (vector_data report.basis.b)
    (member (codes "c") (fractions_data report.mean)
    (member (codes "general") (general_data report)
    (member (codes "heights") (array (items_of (map (height_data report) report.heights)))
    (member (codes "period") (string (number_text report.period))
    (member (codes "plane") (indices_data report.row)
    (member (codes "tau") (vector_data report.basis.tau) no_members))))))))

-- its text with no blanks, and the end of the line
abbrev pub report_json : Report → List ℕ
report_json report = compact_text (report_data report) ++ codes "\n"
