-- The numbers are opposite.
use Rattle.std.proofs.Common.{◌≡◌, pos, ◌-ℤ◌, ◌^◌, [], ◌∷◌, subst}
use Rattle.integers.proofs.Coded.{again, code_is}
use Rattle.integers.proofs.Solver.{Expr.{var, num, ◌⊝◌}}
use Rattle.line_frames.proofs.Quotients.{IsQuotient, quotient_of_opposites}
use Rattle.line_frames.proofs.members.quotient.Goals as goal

pub returns-then-den-lt0 : goal.returns-then-den-lt0
returns-then-den-lt0 c =
    let n : again (pos 0 -ℤ again c.args.num) ≡ pos 0 -ℤ c.args.num = code_is (2 ^ 32 ∷ []) (c.args.num ∷ []) (num (pos 0) ⊝ var 0) tt (c.requires.small, tt) in
    let d : again (pos 0 -ℤ again c.args.den) ≡ pos 0 -ℤ c.args.den = code_is (2 ^ 32 ∷ []) (c.args.den ∷ []) (num (pos 0) ⊝ var 0) tt (c.requires.den_small, tt) in
    quotient_of_opposites c.args.num c.args.den c.quotient_by_positive.result
    (subst (λ x. IsQuotient x (pos 0 -ℤ c.args.den) c.quotient_by_positive.result) n
    (subst (λ x. IsQuotient (again (pos 0 -ℤ again c.args.num)) x c.quotient_by_positive.result) d c.quotient_by_positive.ensures))
