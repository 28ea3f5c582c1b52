use Rattle.std.proofs.Common.{◌≡◌, ◌∙◌, arith}
use Rattle.requests.proofs.EntrySizes.{unit, size_is, size_within, no_size, not_above}
use Rattle.requests.proofs.limits.size_in_parts.Goals as goal
use Rattle.requests.proofs.limits.size_in_parts.Goals.{then-den-unit-via-then-den-unit, then-den-unit-via-else-den-unit+then-unit-den-ne0, then-den-unit-via-else-den-unit+else-unit-den-ne0+then-size-den}

pub returns-clause-value : goal.returns-clause-value
returns-clause-value c =
    let is : c.from-unit.result ≡ unit = c.from-unit.ensures ∙ c.unsigned_abs.ensures.value in
    rw is (size_is c.args.size c.args.den (rw is at c.if-unit-den-ne0.false) c.if-size-den.false)

pub returns-clause-small : goal.returns-clause-small
returns-clause-small c =
    let is : c.from-unit.result ≡ unit = c.from-unit.ensures ∙ c.unsigned_abs.ensures.value in
    rw is (size_within c.args.size c.args.den (rw is at c.if-unit-den-ne0.false) c.if-size-den.false)

pub returns-then-den-unit-clause-value : goal.returns-then-den-unit-clause-value
returns-then-den-unit-clause-value c =
    let is : c.from-unit.result ≡ unit = c.from-unit.ensures ∙ c.unsigned_abs.ensures.value in
    no_size c.args.size c.args.den (λ h. elim c.then-den-unit.branch [
      | then-den-unit-via-then-den-unit w ↦ not_above c.args.size c.args.den (rw is at w.if-den-unit.true) h.0
      | then-den-unit-via-else-den-unit+then-unit-den-ne0 w ↦ (rw is at w.if-unit-den-ne0.true) h.0
      | then-den-unit-via-else-den-unit+else-unit-den-ne0+then-size-den w ↦ let above = w.if-size-den.true in let le = h.1 in absurd (omega arith)
    ])
