use Rattle.std.proofs.Common.{◌≡◌, ◌*◌, pos, ◌+ℤ◌, ◌*ℤ◌, unsigned_abs, lit<, ◌∙◌, arith}
use Rattle.std.specs.Int.{w64}
use Rattle.std.proofs.lemmas.Int.{to_z-of_z, ints}
use Rattle.fractions.specs.declared.part.TheConstants.{UNIT}
use Rattle.fractions.specs.FractionOf.{fraction_of}
use Rattle.fractions.specs.LowestTerms.{lowest_terms}
use Rattle.integers.proofs.Coded.{again}
use Rattle.integers.proofs.Wide.{wide, word_is}
use Rattle.fractions.proofs.Lowest.{lowest_terms-without}
use Rattle.plane_lattice.specs.Bounds.{largest_period}
use Rattle.recognition.specs.Grid.{grid}
use Rattle.report.proofs.named.origin_entry.Goals as goal

pub returns : goal.returns
returns c =
    let q = fraction_of c.args.s in
    let d = c.args.period.0 in
    let num : again (wide c.num-num.result) ≡ q.num = word_is (2 * largest_period) c.num-num.result q.num (lit< tt) c.requires.s.num c.num-num.ensures in
    let den : again (wide c.den-den.result) ≡ q.den = word_is (2 * unsigned_abs UNIT) c.den-den.result q.den (lit< tt) c.requires.s.den c.den-den.ensures in
    let numerator = to_z-of_z w64 c.numerator.result (record { sfits = c.numerator.type_inv }) ∙ c.numerator.ensures
    ∙ (λ i. pos grid *ℤ UNIT *ℤ (num i *ℤ c.args.tau.0) +ℤ den i *ℤ d *ℤ c.args.v.0) in
    let denominator = to_z-of_z w64 c.denominator.result (record { sfits = c.denominator.type_inv }) ∙ c.denominator.ensures.is
    ∙ (λ i. den i *ℤ d *ℤ (pos grid *ℤ UNIT)) in
    c.lowest.ensures ∙ (λ i. lowest_terms (numerator i) (denominator i))
    ∙ lowest_terms-without (pos grid *ℤ UNIT) UNIT q.num q.den d c.args.tau.0 c.args.v.0 (omega (arith, ints)) (omega (arith, ints)) c.requires.s.above c.requires.above
