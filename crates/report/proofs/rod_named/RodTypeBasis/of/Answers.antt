use Rattle.std.proofs.Common.{lit<, ap, ◌∙◌}
use Rattle.integers.proofs.Coded.{again_is}
use Rattle.symmetry.specs.Vectors.{multiple}
use Rattle.motions.specs.PlaneViews.{matrix2_of}
use Rattle.motions.specs.Views.{parts}
use Rattle.report.specs.RodTexts.{combined_fractions}
use Rattle.report.proofs.rod_named.RodTypeBasis.of.Goals as goal

pub returns-clause-first : goal.returns-clause-first
returns-clause-first c =
    let m = matrix2_of c.args.found.now.p in
    let bounded = c.args.found.now.bounded in
    c.combined.ensures
    ∙ (λ i. combined_fractions (again_is m.first.x 2 bounded.first.x (lit< tt) i) (again_is m.second.x 2 bounded.second.x (lit< tt) i)
    ((c.of-a.ensures ∙ c.across_at.ensures) i) ((c.of-b.ensures ∙ c.across_at-2.ensures) i))

pub returns-clause-second : goal.returns-clause-second
returns-clause-second c =
    let m = matrix2_of c.args.found.now.p in
    let bounded = c.args.found.now.bounded in
    c.combined-2.ensures
    ∙ (λ i. combined_fractions (again_is m.first.y 2 bounded.first.y (lit< tt) i) (again_is m.second.y 2 bounded.second.y (lit< tt) i)
    ((c.of-a.ensures ∙ c.across_at.ensures) i) ((c.of-b.ensures ∙ c.across_at-2.ensures) i))

pub returns-clause-third : goal.returns-clause-third
returns-clause-third c =
    c.directed.ensures
    ∙ ap (λ n. multiple n (parts c.args.frame.now.axis)) (again_is c.hand.result 1 c.hand.ensures.small (lit< tt) ∙ c.hand.ensures.is)
