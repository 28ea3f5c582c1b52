-- Quotient and remainder.
use Rattle.std.proofs.Common.{◌≡◌, ◌*◌, ◌^◌, ℤ, pos, ◌*ℤ◌, ◌∙◌, ap, lit<, lit≤, rules, FitsSigned}
use Rattle.std.specs.Int.{w128}
use Rattle.std.proofs.lemmas.Int.{to_z-of_z}
use Rattle.integers.specs.Size.{IsWithin}
use Rattle.integers.proofs.Coded.{again_is}
use Rattle.integers.proofs.Ring.{IsWithin-mul}
use Rattle.integers.proofs.Wide.{wide, wide_is}
use Rattle.scanning.proofs.HeightNumbers.{level_by_periods}
use Rattle.scanning.proofs.class.periods_in.Goals as goal

two_periods : (d from : ℤ) → IsWithin (2 ^ 40) d → from ≡ d → wide (pos 2 *ℤ wide from) ≡ pos 2 *ℤ d
two_periods d from small is =
    ap (λ x. wide (pos 2 *ℤ wide x)) is ∙ ap (λ x. wide (pos 2 *ℤ x)) (wide_is (2 ^ 40) d (lit< tt) small)
    ∙ wide_is (2 * 2 ^ 40) (pos 2 *ℤ d) (lit< tt) (IsWithin-mul {m = 2} {a = pos 2} two small)
  where
    two : IsWithin 2 (pos 2)
    two = record { most = lit≤ tt }

pub returns-clause-is : goal.returns-clause-is
returns-clause-is c =
    let d = c.args.period.0 in
    let rest : FitsSigned w128 c.rem_euclid.result = search rules in
    let times : FitsSigned w128 c.div_euclid.result = search rules in
    level_by_periods _ _ c.args.level d (wide c.rem_euclid.result) (wide c.div_euclid.result) (to_z-of_z w128 c.args.level c.ranges.level)
    (two_periods d c.from-two_periods.result c.requires.small (c.from-two_periods.ensures ∙ again_is d (2 ^ 40) c.requires.small (lit< tt))) c.requires.from
    (to_z-of_z w128 c.rem_euclid.result rest ∙ c.rem_euclid.ensures.value) (to_z-of_z w128 c.div_euclid.result times ∙ c.div_euclid.ensures)
