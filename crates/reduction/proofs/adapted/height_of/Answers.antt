-- The bounds of the indices and the entries bound the value.
use Rattle.std.proofs.Common.{ℕ, ℤ, List, [], ◌∷◌}
use Rattle.std.specs.Prelude.{unsigned_abs}
use Rattle.integers.proofs.Solver.{Expr, Expr.{var, ◌⊕◌, ◌⊗◌}}
use Rattle.integers.proofs.Coded.{code_fits, code_is, code_within, AllWithinBounds}
use Rattle.symmetry.specs.Vectors.{dot, Vector}
use Rattle.motions.specs.Views.{vector_of}
use Rattle.motions.specs.declared.miller.TheConstants.{INDEX}
use Rattle.reduction.specs.Bounds.{largest_first}
use Rattle.reduction.proofs.adapted.height_of.Goals as goal

abbrev bounds : List ℕ
bounds = unsigned_abs INDEX ∷ unsigned_abs INDEX ∷ unsigned_abs INDEX ∷ largest_first ∷ largest_first ∷ largest_first ∷ []

abbrev whole : Expr
whole = var 0 ⊗ var 3 ⊕ var 1 ⊗ var 4 ⊕ var 2 ⊗ var 5

pub overflow_add-result : goal.overflow_add-result
overflow_add-result c =
    let r = c.args.plane.now in
    let v : Vector = vector_of c.args.v.now in
    code_fits bounds (r.h ∷ r.k ∷ r.l ∷ v.x ∷ v.y ∷ v.z ∷ []) (var 0 ⊗ var 3 ⊕ var 1 ⊗ var 4) tt (r.in_range.x, (r.in_range.y, (r.in_range.z, (c.requires.x, (c.requires.y, (c.requires.z, tt))))))

pub overflow_add-result-2 : goal.overflow_add-result-2
overflow_add-result-2 c =
    let r = c.args.plane.now in
    let v : Vector = vector_of c.args.v.now in
    code_fits bounds (r.h ∷ r.k ∷ r.l ∷ v.x ∷ v.y ∷ v.z ∷ []) (whole) tt (r.in_range.x, (r.in_range.y, (r.in_range.z, (c.requires.x, (c.requires.y, (c.requires.z, tt))))))

pub returns : goal.returns
unfolding dot
returns c =
    let r = c.args.plane.now in
    let v : Vector = vector_of c.args.v.now in
    let e : List ℤ = r.h ∷ r.k ∷ r.l ∷ v.x ∷ v.y ∷ v.z ∷ [] in
    let h : AllWithinBounds bounds e = (r.in_range.x, (r.in_range.y, (r.in_range.z, (c.requires.x, (c.requires.y, (c.requires.z, tt)))))) in
    record { is = code_is bounds e whole tt h; small = code_within bounds e whole tt h }
