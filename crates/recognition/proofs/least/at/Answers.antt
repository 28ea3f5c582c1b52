-- The sum does not overflow.
use Rattle.std.proofs.Common.{◌≡◌, ℕ, ◌^◌, ◌∷◌, List, [], ℤ, pos, ◌+ℤ◌, ◌*ℤ◌, ◌∙◌, rules}
use Rattle.std.proofs.Math.Nat.{le_of_lt}
use Rattle.integers.proofs.Solver.{Expr, Expr.{var, ◌⊕◌, ◌⊗◌}}
use Rattle.integers.proofs.Coded.{code_is}
use Rattle.integers.proofs.Sizes.{pos_within}
use Rattle.recognition.specs.Grid.{grid}
use Rattle.recognition.proofs.least.at.Goals as goal

abbrev bounds : List ℕ
bounds = 2 ^ 54 ∷ 501 ∷ grid ∷ []

abbrev whole : Expr
whole = var 0 ⊕ var 1 ⊗ var 2

pub returns-clause-c : goal.returns-clause-c
returns-clause-c c =
    let l = c.args.line.now in
    let ex : c.from.result ≡ pos c.args.x = search rules in
    let e : List ℤ = l.c ∷ l.x ∷ c.from.result ∷ [] in
    code_is bounds e whole tt (l.c_small, (l.x_small, (pos_within grid c.args.x c.from.result (le_of_lt c.requires) ex, tt))) ∙ (λ i. l.c +ℤ l.x *ℤ ex i)
