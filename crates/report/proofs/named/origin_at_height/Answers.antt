use Rattle.std.proofs.Common.{pos, ◌+ℤ◌, ◌*ℤ◌, ℤ, ap, ◌∙◌}
use Rattle.fractions.specs.declared.part.TheConstants.{UNIT}
use Rattle.fractions.specs.FractionOf.{fraction_of}
use Rattle.fractions.specs.LowestTerms.{lowest_terms}
use Rattle.symmetry.specs.Vectors.{Vector, multiple, plus}
use Rattle.motions.specs.Views.{parts}
use Rattle.recognition.specs.Grid.{grid}
use Rattle.scanning.proofs.Shifts.{period_within}
use Rattle.report.proofs.named.origin_at_height.Goals as goal

pub origin_entry-requires-clause-period : goal.origin_entry-requires-clause-period
origin_entry-requires-clause-period c = period_within c.args.frame.now

pub origin_entry-requires-2-clause-period : goal.origin_entry-requires-2-clause-period
origin_entry-requires-2-clause-period c = period_within c.args.frame.now

pub origin_entry-requires-3-clause-period : goal.origin_entry-requires-3-clause-period
origin_entry-requires-3-clause-period c = period_within c.args.frame.now

pub returns : goal.returns
unfolding plus multiple
returns c =
    let q = fraction_of c.args.s in
    let d = c.args.frame.now.period.0 in
    let tau = parts c.args.frame.now.tau in
    let entry : ℤ → ℤ → ℤ = λ t v. pos grid *ℤ UNIT *ℤ (q.num *ℤ UNIT *ℤ t) +ℤ q.den *ℤ d *ℤ UNIT *ℤ v in
    let over : ℤ = q.den *ℤ d *ℤ UNIT *ℤ (pos grid *ℤ UNIT) in
    λ i. record {
      x = (c.origin_entry.ensures ∙ ap (λ (v : Vector). lowest_terms (entry tau.x v.x) over) c.grid_vector-v.ensures.is) i;
      y = (c.origin_entry-2.ensures ∙ ap (λ (v : Vector). lowest_terms (entry tau.y v.y) over) c.grid_vector-v.ensures.is) i;
      z = (c.origin_entry-3.ensures ∙ ap (λ (v : Vector). lowest_terms (entry tau.z v.z) over) c.grid_vector-v.ensures.is) i;
    }
