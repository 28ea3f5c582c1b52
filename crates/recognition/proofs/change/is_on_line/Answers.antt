-- The sum does not overflow.
use Rattle.std.proofs.Common.{◌≡◌, ℕ, ◌^◌, ◌∷◌, List, [], ℤ, pos, ◌+ℤ◌, ◌*ℤ◌, ◌∙◌, subst, rules, IsTrue}
use Rattle.std.specs.Prelude.{◌↔◌}
use Rattle.std.proofs.Math.Nat.{le_of_lt}
use Rattle.integers.proofs.Solver.{Expr, Expr.{var, ◌⊕◌, ◌⊗◌}}
use Rattle.integers.proofs.Coded.{code_fits, code_is}
use Rattle.integers.proofs.Sizes.{pos_within}
use Rattle.recognition.specs.Grid.{grid}
use Rattle.motions.specs.Rationals.{IsMultiple}
use Rattle.recognition.proofs.change.is_on_line.Goals as goal

abbrev bounds : List ℕ
bounds = 2 ^ 54 ∷ 501 ∷ grid ∷ 501 ∷ grid ∷ []

abbrev whole : Expr
whole = (var 0 ⊕ var 1 ⊗ var 2) ⊕ var 3 ⊗ var 4

pub overflow_add-line-2 : goal.overflow_add-line-2
overflow_add-line-2 c =
    let l = c.args.line.now in
    let ex : c.from.result ≡ pos c.args.x = search rules in
    let ey : c.from-2.result ≡ pos c.args.y = search rules in
    let e : List ℤ = l.c ∷ l.x ∷ c.from.result ∷ l.y ∷ c.from-2.result ∷ [] in
    code_fits bounds e whole tt (l.c_small, (l.x_small, (pos_within grid c.args.x c.from.result (le_of_lt c.requires.x) ex, (l.y_small, (pos_within grid c.args.y c.from-2.result (le_of_lt c.requires.y) ey, tt)))))

pub returns : goal.returns
returns c =
    let l = c.args.line.now in
    let ex : c.from.result ≡ pos c.args.x = search rules in
    let ey : c.from-2.result ≡ pos c.args.y = search rules in
    let e : List ℤ = l.c ∷ l.x ∷ c.from.result ∷ l.y ∷ c.from-2.result ∷ [] in
    let is =
    code_is bounds e whole tt (l.c_small, (l.x_small, (pos_within grid c.args.x c.from.result (le_of_lt c.requires.x) ex, (l.y_small, (pos_within grid c.args.y c.from-2.result (le_of_lt c.requires.y) ey, tt)))))
    ∙ (λ i. (l.c +ℤ l.x *ℤ ex i) +ℤ l.y *ℤ ey i) in
    let Claim : ℤ → Type 0 = λ z. IsTrue c.is_whole.result ↔ IsMultiple (pos grid) z in
    subst Claim is c.is_whole.ensures
