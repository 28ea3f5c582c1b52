use Rattle.std.proofs.Common.{pos, [], ◌∷◌, ap, ◌∙◌}
use Rattle.fractions.specs.LowestTerms.{lowest_terms}
use Rattle.integers.proofs.Coded.{code_fits, code_is}
use Rattle.report.proofs.RodNamedSizes.{along, along_bounds}
use Rattle.report.proofs.rod_named.origin_entry.Goals as goal

pub overflow_add-point : goal.overflow_add-point
overflow_add-point c =
    code_fits along_bounds (c.args.point.0 ∷ c.args.axis.0 ∷ c.args.z ∷ []) along tt (c.requires.point, (c.requires.axis, (c.requires.z, tt)))

pub returns : goal.returns
returns c =
    c.lowest.ensures
    ∙ ap (λ n. lowest_terms n (pos 4608))
    (code_is along_bounds (c.args.point.0 ∷ c.args.axis.0 ∷ c.args.z ∷ []) along tt (c.requires.point, (c.requires.axis, (c.requires.z, tt))))
