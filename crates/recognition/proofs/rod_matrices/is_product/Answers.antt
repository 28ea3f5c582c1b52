use Rattle.std.proofs.Common.{refl, ap}
use Rattle.motions.specs.Laws.PlaneMatrixLaws.{matrix2_path}
use Rattle.motions.specs.PlaneMatrices.{Matrix2}
use Rattle.recognition.proofs.rod_matrices.is_product.Goals as goal

pub returns-then-not-is_row : goal.returns-then-not-is_row
returns-then-not-is_row c = (λ t. absurd (cc), λ e. c.if-not-is_row.ensures.1 (ap (λ (m : Matrix2). m.first) e))

pub returns : goal.returns
returns c = (
  λ t. matrix2_path (c.if-not-is_row.ensures.0 refl) (c.is_row-2.ensures.0 t),
  λ e. c.is_row-2.ensures.1 (ap (λ (m : Matrix2). m.second) e),
)
