-- The terms as they stand in the row.
use Rattle.std.proofs.Common.{rules, ℕ, List, FitsSigned, w64, subst, sym}
use Rattle.std.specs.Fmt.{HasWritten}
use Rattle.triplets.proofs.RowTexts.{coded_row}
use Rattle.triplets.proofs.display.RowDisplay.fmt.Goals as goal

pub returns-clause-writes : goal.returns-clause-writes
returns-clause-writes g c plain ok =
    let r = c.args.self.now in
    let x : FitsSigned w64 r.x = search rules in
    let y : FitsSigned w64 r.y = search rules in
    let z : FitsSigned w64 r.z = search rules in
    let t : FitsSigned w64 r.translation.0 = search rules in
    subst (λ (text : List ℕ). HasWritten {W = g.row.W.Denot} g.W.Write.write_str_gives c.args.f.now text c.write-2.new.self)
    (sym (coded_row r.x r.y r.z r.translation.0 x y z t c.if-none_to_z-translation.false)) (c.write-2.ensures.writes plain ok)
