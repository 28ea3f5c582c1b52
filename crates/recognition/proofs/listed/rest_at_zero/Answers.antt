-- The size of the product bounds each step.
use Rattle.std.proofs.Common.{ℕ, ◌^◌, ◌*◌, ◌∷◌, List, [], ℤ, pos, ◌-ℤ◌, ◌*ℤ◌, ◌∙◌, ap, lit≤, lit<}
use Rattle.integers.proofs.Ring.{IsWithin-more}
use Rattle.integers.proofs.Solver.{Expr, Expr.{var, num, ◌⊝◌, ◌⊗◌}}
use Rattle.integers.proofs.Coded.{code_fits, code_is, code_within, again_is, AllWithinBounds}
use Rattle.motions.specs.PlaneMatrices.{dot2}
use Rattle.motions.specs.PlaneViews.{pair_of}
use Rattle.recognition.proofs.listed.rest_at_zero.Goals as goal

abbrev bounds : List ℕ
bounds = 2 ^ 40 ∷ 1000 * 2 ^ 40 ∷ []

abbrev whole : Expr
whole = num (pos 6) ⊗ (var 0 ⊝ var 1)

pub overflow_mul-result : goal.overflow_mul-result
overflow_mul-result c =
    code_fits bounds (c.args.s ∷ c.row_by_column.result ∷ []) whole tt (c.requires.s, (c.row_by_column.ensures.small, tt))

pub returns : goal.returns
returns c =
    let e : List ℤ = c.args.s ∷ c.row_by_column.result ∷ [] in
    let within : AllWithinBounds bounds e = (c.requires.s, (c.row_by_column.ensures.small, tt)) in
    let t = pair_of c.args.t.now in
    let x = again_is t.x (2 ^ 40) c.requires.t.x (lit< tt) in
    let y = again_is t.y (2 ^ 40) c.requires.t.y (lit< tt) in
    let image = c.row_by_column.ensures.is ∙ (λ i. dot2 (pair_of c.args.row.now) (record { x = x i; y = y i })) in
    record {
      is = code_is bounds e whole tt within ∙ ap (λ z. pos 6 *ℤ (c.args.s -ℤ z)) image;
      small = IsWithin-more (code_within bounds e whole tt within) (lit≤ tt);
    }
