-- What is written of a line.
use Rattle.std.specs.Prelude.{ℕ, ℤ, ◌+ℤ◌, ◌*ℤ◌, List, [], ◌++◌, Option, Some, None, codes, flat_map}
use Rattle.fractions.specs.declared.part.TheConstants.{UNIT}
use Rattle.fractions.specs.Fraction.{Fraction}
use Rattle.fractions.specs.Fractions.{Fractions}
use Rattle.fractions.specs.LowestTerms.{lowest_terms}
use Rattle.symmetry.specs.Vectors.{Vector, multiple, plus}
use Rattle.symmetry.specs.Motions.{Point}
use Rattle.triplets.specs.Writing.{number_line}
use Rattle.line_types.specs.RodRows.{rod_row}
use Rattle.recognition.specs.declared.found_rod.FoundRod.{FoundRod}
use Rattle.recognition.specs.RodChanges.{grid_part, hand}
use Rattle.recognition.specs.RodOrder.{Change}
use Rattle.recognition.specs.RodTypes.{change_of}
use Rattle.report.specs.RodReports.{RodReport}
use Rattle.report.specs.Texts.{fractions_text, indices_text, operation_line, origin_line, vector_text}
use Rattle.report.specs.TypeVectors.{lowest_point}

-- x v + y w, in lowest terms
abbrev pub combined_fraction : ℤ → ℤ → Fraction → Fraction → Fraction
combined_fraction x y v w = lowest_terms (x *ℤ v.num *ℤ w.den +ℤ y *ℤ w.num *ℤ v.den) (v.den *ℤ w.den)

abbrev pub combined_fractions : ℤ → ℤ → Fractions → Fractions → Fractions
combined_fractions x y v w = record {
  x = combined_fraction x y v.x w.x;
  y = combined_fraction x y v.y w.y;
  z = combined_fraction x y v.z w.z;
}

-- the type's first vector across the axis: p00 a' + p10 b'
abbrev pub first_across : Fractions → Fractions → Change → Fractions
first_across a b c = combined_fractions c.matrix.first.x c.matrix.second.x a b

-- the second: p01 a' + p11 b'
abbrev pub second_across : Fractions → Fractions → Change → Fractions
second_across a b c = combined_fractions c.matrix.first.y c.matrix.second.y a b

-- the third: n c, where n is the sign of p00 p11 - p01 p10
abbrev pub third_along : Vector → Change → Vector
third_along axis c = multiple (hand c.matrix) axis

-- the origin: p + (z/grid) c
abbrev pub origin_along : Vector → Vector → Change → Point
origin_along p axis c =
    let q = grid_part c.z in
    record { at = plus (multiple q.den p) (multiple q.num axis); over = q.den *ℤ UNIT }

-- the direction, the point, the axis, and the vectors a' and b'
unfoldable pub line_text : RodReport → List ℕ
line_text report =
    codes "line" ++ indices_text report.direction ++ codes "\n" ++
    codes "through " ++ vector_text report.point ++ codes "\n" ++
    codes "axis " ++ vector_text report.axis ++ codes "\n" ++
    codes "a " ++ fractions_text report.first ++ codes "\n" ++
    codes "b " ++ fractions_text report.second ++ codes "\n"

-- the vectors of a rod type: two across the axis, and one along it, in parts
unfoldable pub rod_basis_line : Fractions → Fractions → Vector → List ℕ
rod_basis_line first second third =
    codes "basis " ++ fractions_text first ++ codes " " ++ fractions_text second ++ codes " " ++ vector_text third ++ codes "\n"

-- the lines of a rod type, by the change that was found
abbrev pub named_rod_lines : RodReport → Change → List ℕ
named_rod_lines report c =
    number_line c.number (rod_row c.number).symbol ++
    rod_basis_line (first_across report.first report.second c) (second_across report.first report.second c) (third_along report.axis c) ++
    origin_line (lowest_point (origin_along report.point report.axis c)) []

abbrev pub rod_type_lines : RodReport → Option FoundRod → List ℕ
rod_type_lines report None = codes "type unrecognised\n"
rod_type_lines report (Some found) = named_rod_lines report (change_of found)

-- the text of a line: the line and its frame, the type, the operations, and the end
abbrev pub rod_text : RodReport → List ℕ
rod_text report =
    line_text report ++ rod_type_lines report report.found ++ flat_map operation_line report.ops ++ codes "end\n"
