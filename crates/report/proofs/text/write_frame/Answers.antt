use Rattle.std.proofs.Common.{◌++◌}
use Rattle.std.specs.Prelude.{codes, string_bytes}
use Rattle.motions.specs.Views.{parts, row_of}
use Rattle.triplets.specs.Writing.{number_text}
use Rattle.triplets.proofs.TextLines.{three_pieces_more}
use Rattle.report.specs.Texts.{frame_text, indices_text, vector_text}
use Rattle.report.proofs.text.write_frame.Goals as goal

pub returns : goal.returns
unfolding frame_text
returns c =
    let t = string_bytes c.args.text.now in
    let frame = c.args.report.now.frame in
    let plane = codes "plane" ++ indices_text (row_of frame.plane) ++ codes "\n" in
    let period = plane ++ codes "period " ++ number_text frame.period.0 ++ codes "\n" in
    let a = period ++ codes "a " ++ vector_text (parts frame.a) ++ codes "\n" in
    let b = a ++ codes "b " ++ vector_text (parts frame.b) ++ codes "\n" in
    let tau = b ++ codes "tau " ++ vector_text (parts frame.tau) ++ codes "\n" in
    three_pieces_more t tau (codes "c ") _ (codes "\n")
    (three_pieces_more t b (codes "tau ") _ (codes "\n")
    (three_pieces_more t a (codes "b ") _ (codes "\n")
    (three_pieces_more t period (codes "a ") _ (codes "\n")
    (three_pieces_more t plane (codes "period ") _ (codes "\n") c.in_ok-write_plane.ensures c.in_ok-write_period.ensures)
    c.in_ok-write_vector.ensures)
    c.in_ok-write_vector-2.ensures)
    c.in_ok-write_vector-3.ensures)
    c.in_ok-write_edges.ensures
