-- How code tells the whole cell edges: by their home.
use Rattle.std.proofs.Common.{◌≡◌, ◌↔◌, Bool, IsTrue, sym, ◌∙◌}
use Rattle.motions.specs.FriezeMotions.{FriezeOperation, frieze_identity, same_frieze}
use Rattle.motions.specs.Laws.FriezeLaws.{same_frieze-is}
use Rattle.friezes.specs.declared.line_op.LineOp.{LineOp}
use Rattle.friezes.specs.Lines.{IsLineShift, line_home, line_of}
use Rattle.friezes.specs.Laws.ShiftLaws.{shift_by_home}

pub by_equal_home : (m : LineOp) {home one : FriezeOperation} {b : Bool} → b ≡ same_frieze home one
    → home ≡ line_of (line_home m) → one ≡ frieze_identity → IsTrue b ↔ IsLineShift m
by_equal_home m {home} {one} test is_home is_one =
    let decides = same_frieze-is home one in
    let by = shift_by_home m in
    (λ t. by.0 (sym is_home ∙ decides.0 (sym test ∙ t) ∙ is_one), λ h. test ∙ decides.1 (is_home ∙ by.1 h ∙ sym is_one))
