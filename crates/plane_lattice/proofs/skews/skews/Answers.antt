-- The sign of the operation tells whether it keeps the orientation.
use Rattle.std.proofs.Common.{sym, ◌∙◌}
use Rattle.plane_lattice.proofs.skews.skews.Goals as goal

pub returns-then-is_some : goal.returns-then-is_some
returns-then-is_some c =
    let keeps = c.side.ensures.keeps.0 (sym c.is_some.ensures ∙ c.if-is_some.true) in
    (λ t. record { scanning = keeps; far = c.turns_far.ensures.0 t }, λ s. c.turns_far.ensures.1 s.far)

pub returns-else-is_some : goal.returns-else-is_some
returns-else-is_some c = (
  λ t. absurd (cc (t, c.if-is_some.false)),
  λ s. c.is_some.ensures ∙ c.side.ensures.keeps.1 s.scanning,
)
