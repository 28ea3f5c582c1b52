use Rattle.std.proofs.Common.{◌≡◌, sym, ap, ◌∙◌, rules, FitsSigned, w64, of_z, eq-eqb}
use borrow.Author.Tests.{eqb-true}
use Rattle.integers.proofs.Coded.{same_number}
use Rattle.motions.specs.PlaneMatrices.{Pair}
use Rattle.motions.specs.PlaneViews.{pair_of}
use Rattle.motions.specs.Laws.PlaneMatrixLaws.{pair_path}
use Rattle.recognition.proofs.rod_matrices.is_row.Goals as goal

pub returns : goal.returns
returns c =
    let other = pair_of c.args.other.now in
    let x : FitsSigned w64 other.x = search rules in
    let y : FitsSigned w64 other.y = search rules in
    let s : FitsSigned w64 c.first_entry-first.result = search rules in
    let t : FitsSigned w64 c.second_entry-second.result = search rules in
    let first : other.x ≡ c.first_entry-first.result = same_number other.x c.first_entry-first.result x s c.if-other-first.false in (
      λ h. pair_path (first ∙ c.first_entry-first.ensures)
          (same_number other.y c.second_entry-second.result y t (eqb-true (of_z w64 other.y) (of_z w64 c.second_entry-second.result) h) ∙ c.second_entry-second.ensures),
      λ e. eq-eqb (of_z w64 other.y) (of_z w64 c.second_entry-second.result) (ap (of_z w64) (ap (λ (v : Pair). v.y) e ∙ sym c.second_entry-second.ensures)),
    )
