use Rattle.std.proofs.Common.{[], ◌∷◌, lit≤}
use Rattle.integers.proofs.Coded.{code_is, code_within}
use Rattle.integers.proofs.Ring.{IsWithin-more}
use Rattle.line_reports.proofs.OriginSizes.{grid_bounds, on_grid}
use Rattle.line_reports.proofs.named.grid_entry.Goals as goal

pub returns-clause-is : goal.returns-clause-is
returns-clause-is c = code_is grid_bounds (c.args.a.0 ∷ c.args.x ∷ []) on_grid tt (c.requires.a, (c.requires.x, tt))

pub returns-clause-small : goal.returns-clause-small
returns-clause-small c =
    IsWithin-more (code_within grid_bounds (c.args.a.0 ∷ c.args.x ∷ []) on_grid tt (c.requires.a, (c.requires.x, tt))) (lit≤ tt)
