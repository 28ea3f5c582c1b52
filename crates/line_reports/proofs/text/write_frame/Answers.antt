use Rattle.std.proofs.Common.{◌++◌}
use Rattle.std.specs.Prelude.{codes, string_bytes}
use Rattle.plane_motions.specs.PlaneMotions.{parts2}
use Rattle.triplets.specs.Writing.{number_text}
use Rattle.triplets.proofs.TextLines.{three_pieces_more}
use Rattle.line_scans.specs.LineView.{line_scan_of}
use Rattle.line_reports.specs.LineTexts.{frame_text, indices_text, vector_text}
use Rattle.line_reports.proofs.text.write_frame.Goals as goal

pub returns : goal.returns
unfolding frame_text
returns c =
    let t = string_bytes c.args.text.now in
    let scan = c.args.scan.now in
    let row = codes "line" ++ indices_text (line_scan_of scan).row ++ codes "\n" in
    let period = row ++ codes "period " ++ number_text scan.period.0 ++ codes "\n" in
    let a = period ++ codes "a " ++ vector_text (parts2 scan.a) ++ codes "\n" in
    let tau = a ++ codes "tau " ++ vector_text (parts2 scan.tau) ++ codes "\n" in
    three_pieces_more t tau (codes "c ") _ (codes "\n")
    (three_pieces_more t a (codes "tau ") _ (codes "\n")
    (three_pieces_more t period (codes "a ") _ (codes "\n")
    (three_pieces_more t row (codes "period ") _ (codes "\n") c.in_ok-write_indices.ensures c.in_ok-write_period.ensures)
    c.in_ok-write_vector.ensures)
    c.in_ok-write_vector-2.ensures)
    c.in_ok-write_edges.ensures
