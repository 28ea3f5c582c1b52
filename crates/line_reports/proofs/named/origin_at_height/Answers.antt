use Rattle.std.proofs.Common.{pos, ◌+ℤ◌, ◌*ℤ◌, ℤ, ap, ◌∙◌}
use Rattle.fractions.specs.declared.part.TheConstants.{UNIT}
use Rattle.fractions.specs.FractionOf.{fraction_of}
use Rattle.fractions.specs.LowestTerms.{lowest_terms}
use Rattle.friezes.specs.declared.found_frieze.TheConstants.{GRID}
use Rattle.motions.specs.PlaneMatrices.{Pair}
use Rattle.plane_motions.specs.PlaneMotions.{parts2}
use Rattle.line_reports.proofs.named.origin_at_height.Goals as goal

pub returns : goal.returns
returns c =
    let q = fraction_of c.args.s in
    let d = c.args.scan.now.period.0 in
    let tau = parts2 c.args.scan.now.tau in
    let entry : ℤ → ℤ → ℤ = λ t v. pos GRID *ℤ UNIT *ℤ (q.num *ℤ UNIT *ℤ t) +ℤ q.den *ℤ d *ℤ UNIT *ℤ v in
    let over : ℤ = q.den *ℤ d *ℤ UNIT *ℤ (pos GRID *ℤ UNIT) in
    λ i. record {
      x = (c.origin_entry.ensures ∙ ap (λ (v : Pair). lowest_terms (entry tau.x v.x) over) c.grid_vector-v.ensures.is) i;
      y = (c.origin_entry-2.ensures ∙ ap (λ (v : Pair). lowest_terms (entry tau.y v.y) over) c.grid_vector-v.ensures.is) i;
    }
