use Rattle.std.proofs.Common.{[], ◌∷◌, lit≤}
use Rattle.integers.proofs.Coded.{code_fits, code_is, code_within}
use Rattle.integers.proofs.Ring.{IsWithin-more}
use Rattle.report.proofs.NamedSizes.{in_plane, plane_bounds}
use Rattle.report.proofs.named.entry_in_plane.Goals as goal

pub overflow_add-result : goal.overflow_add-result
overflow_add-result c =
    code_fits plane_bounds (c.args.a.0 ∷ c.args.b.0 ∷ c.args.x ∷ c.args.y ∷ []) in_plane tt (c.requires.a, (c.requires.b, (c.requires.x, (c.requires.y, tt))))

pub returns-clause-is : goal.returns-clause-is
returns-clause-is c =
    code_is plane_bounds (c.args.a.0 ∷ c.args.b.0 ∷ c.args.x ∷ c.args.y ∷ []) in_plane tt (c.requires.a, (c.requires.b, (c.requires.x, (c.requires.y, tt))))

pub returns-clause-small : goal.returns-clause-small
returns-clause-small c =
    IsWithin-more
    (code_within plane_bounds (c.args.a.0 ∷ c.args.b.0 ∷ c.args.x ∷ c.args.y ∷ []) in_plane tt (c.requires.a, (c.requires.b, (c.requires.x, (c.requires.y, tt)))))
    (lit≤ tt)
