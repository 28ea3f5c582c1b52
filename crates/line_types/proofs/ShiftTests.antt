-- How code tells the lattice translations: by their home.
use Rattle.std.proofs.Common.{◌≡◌, ◌↔◌, Bool, IsTrue, sym, ◌∙◌}
use Rattle.line_types.specs.Lines.{Line, IsLatticeTranslation, at_home}
use Rattle.line_types.specs.Laws.LineLaws.{LineLaws, translation_by_home}

pub by_equal_home : (L : Line) → LineLaws L → (m : L.Value) {home one : L.Operation} {b : Bool} → b ≡ L.same home one
    → home ≡ at_home L (L.of m) → one ≡ L.one → IsTrue b ↔ IsLatticeTranslation L m
by_equal_home L laws m {home} {one} test is_home is_one =
    let decides = laws.same home one in
    let by = translation_by_home L laws m in
    (λ t. by.0 (sym is_home ∙ decides.0 (sym test ∙ t) ∙ is_one), λ h. test ∙ decides.1 (is_home ∙ by.1 h ∙ sym is_one))
