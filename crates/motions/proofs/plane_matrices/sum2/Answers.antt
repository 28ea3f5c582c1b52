-- Neither sum overflows.
use Rattle.std.proofs.Common.{ℕ, ◌^◌, ◌∷◌, List, []}
use Rattle.integers.proofs.Solver.{Expr.{var, ◌⊕◌}}
use Rattle.integers.proofs.Coded.{code_is}
use Rattle.motions.specs.Laws.PlaneMatrixLaws.{pair_path}
use Rattle.motions.specs.PlaneSizes.{largest_image2}
use Rattle.motions.specs.PlaneViews.{pair_of}
use Rattle.motions.proofs.plane_matrices.sum2.Goals as goal

abbrev bounds : List ℕ
bounds = largest_image2 ∷ 2 ^ 40 ∷ []

pub returns : goal.returns
returns c =
    let v = pair_of c.args.image.now in
    let w = pair_of c.args.vector.now in
    let h = c.requires in
    pair_path
    (code_is bounds (v.x ∷ w.x ∷ []) (var 0 ⊕ var 1) tt (h.image.x, (h.vector.x, tt)))
    (code_is bounds (v.y ∷ w.y ∷ []) (var 0 ⊕ var 1) tt (h.image.y, (h.vector.y, tt)))
