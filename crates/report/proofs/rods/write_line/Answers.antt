use Rattle.std.proofs.Common.{◌++◌}
use Rattle.std.specs.Prelude.{codes, string_bytes}
use Rattle.motions.specs.Views.{parts}
use Rattle.triplets.proofs.TextLines.{three_pieces_more}
use Rattle.penetration.specs.DirectionView.{direction_of}
use Rattle.penetration.specs.RodOperations.{vector_across}
use Rattle.report.specs.RodTexts.{line_text}
use Rattle.report.specs.Texts.{fractions_text, indices_text, vector_text}
use Rattle.report.proofs.rods.write_line.Goals as goal

pub returns : goal.returns
unfolding line_text
returns c =
    let t = string_bytes c.args.text.now in
    let rod = c.args.rod.now in
    let direction = codes "line" ++ indices_text (direction_of rod.frame.direction) ++ codes "\n" in
    let through = direction ++ codes "through " ++ vector_text (parts rod.point) ++ codes "\n" in
    let axis = through ++ codes "axis " ++ vector_text (parts rod.frame.axis) ++ codes "\n" in
    let first = axis ++ codes "a " ++ fractions_text (vector_across rod.frame.across 0) ++ codes "\n" in
    three_pieces_more t first (codes "b ") _ (codes "\n")
    (three_pieces_more t axis (codes "a ") _ (codes "\n")
    (three_pieces_more t through (codes "axis ") _ (codes "\n")
    (three_pieces_more t direction (codes "through ") _ (codes "\n") c.in_ok-write_direction.ensures c.in_ok-write_vector.ensures)
    c.in_ok-write_vector-2.ensures)
    c.in_ok-write_across.ensures)
    c.in_ok-write_across-2.ensures
