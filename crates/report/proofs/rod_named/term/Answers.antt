use Rattle.std.proofs.Common.{◌≡◌, ◌^◌, ◌*ℤ◌, ℤ, [], ◌∷◌, FitsSigned, lit<, lit≤, sym, subst, ◌∙◌}
use Rattle.std.specs.Int.{w64}
use Rattle.integers.specs.Size.{IsWithin}
use Rattle.integers.proofs.Coded.{again, code_fits, code_is, code_within}
use Rattle.integers.proofs.Ring.{IsWithin-more}
use Rattle.integers.proofs.Wide.{wide, cast_is}
use Rattle.report.proofs.RodNamedSizes.{term, term_bounds}
use Rattle.report.proofs.rod_named.term.Goals as goal

-- the product as the code has it
abbrev coded : ℤ → ℤ → ℤ → ℤ
coded x n d = again (again x *ℤ again n) *ℤ again d

pub overflow_mul-result-2 : goal.overflow_mul-result-2
overflow_mul-result-2 c =
    let n : wide c.num.result ≡ c.args.v.num = cast_is (2 ^ 40) c.num.result c.args.v.num (lit< tt) c.requires.v.num c.num.ensures in
    let d : wide c.den.result ≡ c.args.w.den = cast_is (2 ^ 20) c.den.result c.args.w.den (lit< tt) c.requires.w.den c.den.ensures in
    subst (FitsSigned w64) (sym (λ i. coded c.args.x (n i) (d i)))
    (code_fits term_bounds (c.args.x ∷ c.args.v.num ∷ c.args.w.den ∷ []) term tt (c.requires.x, (c.requires.v.num, (c.requires.w.den, tt))))

pub returns-clause-is : goal.returns-clause-is
returns-clause-is c =
    let n : wide c.num.result ≡ c.args.v.num = cast_is (2 ^ 40) c.num.result c.args.v.num (lit< tt) c.requires.v.num c.num.ensures in
    let d : wide c.den.result ≡ c.args.w.den = cast_is (2 ^ 20) c.den.result c.args.w.den (lit< tt) c.requires.w.den c.den.ensures in
    (λ i. again (coded c.args.x (n i) (d i)))
    ∙ code_is term_bounds (c.args.x ∷ c.args.v.num ∷ c.args.w.den ∷ []) term tt (c.requires.x, (c.requires.v.num, (c.requires.w.den, tt)))

pub returns-clause-small : goal.returns-clause-small
returns-clause-small c =
    let n : wide c.num.result ≡ c.args.v.num = cast_is (2 ^ 40) c.num.result c.args.v.num (lit< tt) c.requires.v.num c.num.ensures in
    let d : wide c.den.result ≡ c.args.w.den = cast_is (2 ^ 20) c.den.result c.args.w.den (lit< tt) c.requires.w.den c.den.ensures in
    subst (IsWithin (2 ^ 61)) (sym (λ i. again (coded c.args.x (n i) (d i))))
    (IsWithin-more
    (code_within term_bounds (c.args.x ∷ c.args.v.num ∷ c.args.w.den ∷ []) term tt (c.requires.x, (c.requires.v.num, (c.requires.w.den, tt))))
    (lit≤ tt))
