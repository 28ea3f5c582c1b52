use Rattle.std.proofs.Common.{◌≡◌, ℕ, ◌^◌, ◌≤ℤ◌, ◌<ℤ◌, ◌∷◌, List, [], ◌∙◌, ap, subst, arith, rules, w64, FitsSigned, to_z, of_z, ℤ, pos, ◌-ℤ◌, ◌*ℤ◌, nat_abs}
use Rattle.std.proofs.lemmas.Int.{to_z-of_z, ints}
use Rattle.fractions.specs.declared.part.TheConstants.{UNIT}
use Rattle.fractions.specs.Parts.{IsReduced}
use Rattle.integers.proofs.Solver.{Expr, Expr.{var, ◌⊝◌, ◌⊗◌}}
use Rattle.integers.proofs.Coded.{code_fits, code_is}
use Rattle.recognition.specs.declared.rod_origins.TheConstants.{STEP}
use Rattle.recognition.proofs.rod_origins.origin_of.Goals as goal

abbrev bounds : List ℕ
bounds = 1 ∷ 2 ^ 40 ∷ 2 ^ 40 ∷ []

abbrev whole : Expr
whole = var 1 ⊝ var 0 ⊗ var 2

pub overflow_mul-hand : goal.overflow_mul-hand
overflow_mul-hand c =
    let h = c.requires in
    code_fits bounds (c.hand.result ∷ c.args.m.now.t ∷ c.args.n.now.t ∷ []) (var 0 ⊗ var 2) tt (c.hand.ensures.small, (h.m.translation, (h.n.translation, tt)))

pub overflow_sub-m : goal.overflow_sub-m
overflow_sub-m c =
    let h = c.requires in
    code_fits bounds (c.hand.result ∷ c.args.m.now.t ∷ c.args.n.now.t ∷ []) whole tt (c.hand.ensures.small, (h.m.translation, (h.n.translation, tt)))

doubled : (r : ℤ) → pos 0 ≤ℤ r → r <ℤ UNIT → FitsSigned w64 r → pos (nat_abs (to_z w64 (of_z w64 (STEP *ℤ to_z w64 (of_z w64 r))))) ≡ STEP *ℤ r
doubled r h k f =
    let g : FitsSigned w64 (STEP *ℤ r) = omega (arith, ints) in
    simp to_z-of_z (omega (arith, ints))

pub returns : goal.returns
returns c =
    let h = c.requires in
    let e = code_is bounds (c.hand.result ∷ c.args.m.now.t ∷ c.args.n.now.t ∷ []) whole tt (c.hand.ensures.small, (h.m.translation, (h.n.translation, tt))) in
    let r = c.reduced-rest.result.0 in
    let f : FitsSigned w64 r = search rules in
    let reduced = subst (λ x. IsReduced x r) (e ∙ ap (λ n. c.args.m.now.t -ℤ n *ℤ c.args.n.now.t) c.hand.ensures.is) c.reduced-rest.ensures.reduced in
    record { rest = r; reduced = reduced; is = doubled r reduced.least reduced.below f }
