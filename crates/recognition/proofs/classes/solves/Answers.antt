-- The sum does not overflow.
use Rattle.std.proofs.Common.{◌≡◌, ℕ, ◌^◌, ◌∷◌, List, [], ℤ, pos, ◌+ℤ◌, ◌*ℤ◌, ◌∙◌, ap, subst, sym, rules, IsTrue}
use Rattle.std.specs.Prelude.{◌↔◌}
use Rattle.integers.specs.Size.{IsWithin}
use Rattle.integers.proofs.Solver.{Expr, Expr.{var, ◌⊕◌, ◌⊗◌}}
use Rattle.integers.proofs.Coded.{code_is}
use Rattle.recognition.specs.Grid.{grid}
use Rattle.motions.specs.Rationals.{IsMultiple}
use Rattle.recognition.proofs.classes.solves.Goals as goal

abbrev bounds : List ℕ
bounds = 2 ^ 55 ∷ 501 ∷ 2 ^ 20 ∷ []

abbrev whole : Expr
whole = var 0 ⊕ var 1 ⊗ var 2

pub returns : goal.returns
returns c =
    let r = c.args.r.now in
    let ey : c.from.result ≡ pos c.args.y = search rules in
    let small : IsWithin (2 ^ 20) c.from.result = subst (IsWithin (2 ^ 20)) (sym ey) (record { most = c.requires }) in
    let e : List ℤ = r.c ∷ r.a ∷ c.from.result ∷ [] in
    let is = code_is bounds e whole tt (r.c_small, (r.a_small, (small, tt))) ∙ ap (λ z. r.c +ℤ r.a *ℤ z) ey in
    let Claim : ℤ → Type 0 = λ z. IsTrue c.is_whole.result ↔ IsMultiple (pos grid) z in
    subst Claim is c.is_whole.ensures
