-- No step overflows.
use Rattle.std.proofs.Common.{ℕ, ◌∷◌, List, []}
use Rattle.integers.proofs.Solver.{Expr, Expr.{var, num, ◌⊕◌, ◌⊗◌}}
use Rattle.integers.proofs.Coded.{code_is}
use Rattle.motions.specs.Laws.PlaneMatrixLaws.{pair_path}
use Rattle.motions.specs.PlaneViews.{matrix2_of}
use Rattle.layer_types.specs.Lattices.{half_edge}
use Rattle.layer_types.proofs.shifts.image_of_centring.Goals as goal

abbrev bounds : List ℕ
bounds = 500 ∷ 500 ∷ []

abbrev whole : Expr
whole = var 0 ⊗ num half_edge ⊕ var 1 ⊗ num half_edge

pub returns : goal.returns
returns c =
    let m = matrix2_of c.args.a.now in
    let h = c.requires in
    pair_path
    (code_is bounds (m.first.x ∷ m.first.y ∷ []) whole tt (h.first.x, (h.first.y, tt)))
    (code_is bounds (m.second.x ∷ m.second.y ∷ []) whole tt (h.second.x, (h.second.y, tt)))
