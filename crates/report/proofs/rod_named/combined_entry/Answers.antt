use Rattle.std.proofs.Common.{◌≡◌, ◌^◌, ◌+ℤ◌, ◌*ℤ◌, [], ◌∷◌, ◌∙◌}
use Rattle.std.specs.Int.{w64}
use Rattle.std.proofs.lemmas.Int.{to_z-of_z}
use Rattle.fractions.specs.LowestTerms.{lowest_terms}
use Rattle.integers.proofs.Coded.{again, code_is}
use Rattle.integers.proofs.Solver.{Expr.{var, ◌⊕◌}}
use Rattle.report.proofs.rod_named.combined_entry.Goals as goal

pub returns : goal.returns
returns c =
    let v = c.args.v in
    let w = c.args.w in
    let x : again c.args.x ≡ c.args.x = to_z-of_z w64 c.args.x c.ranges.x in
    let y : again c.args.y ≡ c.args.y = to_z-of_z w64 c.args.y c.ranges.y in
    let above : again (again c.term.result +ℤ again c.term-2.result) ≡ c.args.x *ℤ v.num *ℤ w.den +ℤ c.args.y *ℤ w.num *ℤ v.den =
    code_is (2 ^ 61 ∷ 2 ^ 61 ∷ []) (c.term.result ∷ c.term-2.result ∷ []) (var 0 ⊕ var 1) tt (c.term.ensures.small, (c.term-2.ensures.small, tt))
    ∙ (λ i. (c.term.ensures.is ∙ (λ j. x j *ℤ v.num *ℤ w.den)) i +ℤ (c.term-2.ensures.is ∙ (λ j. y j *ℤ w.num *ℤ v.den)) i) in
    let below = to_z-of_z w64 c.denominator.result (record { sfits = c.denominator.type_inv }) ∙ c.denominator.ensures.is in
    c.lowest.ensures ∙ (λ i. lowest_terms (above i) (below i))
