use Rattle.std.proofs.Common.{ℕ, ◌∷◌, List, []}
use Rattle.integers.proofs.Solver.{Expr.{var, ◌⊕◌}}
use Rattle.integers.proofs.Coded.{code_fits, code_is}
use Rattle.motions.specs.PlaneViews.{matrix2_of}
use Rattle.recognition.proofs.rod_kinds.trace.Goals as goal

abbrev bounds : List ℕ
bounds = 500 ∷ 500 ∷ []

pub overflow_add-result : goal.overflow_add-result
overflow_add-result c =
    let a = matrix2_of c.args.a.now in
    code_fits bounds (a.first.x ∷ a.second.y ∷ []) (var 0 ⊕ var 1) tt (c.requires.first.x, (c.requires.second.y, tt))

pub returns : goal.returns
returns c =
    let a = matrix2_of c.args.a.now in
    code_is bounds (a.first.x ∷ a.second.y ∷ []) (var 0 ⊕ var 1) tt (c.requires.first.x, (c.requires.second.y, tt))
