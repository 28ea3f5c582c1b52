use Rattle.std.proofs.lemmas.Bool.{eq-eqb, ne_eqb}
use Rattle.requests.proofs.Ratios.{no_ratio_to_end, to_end}
use Rattle.requests.proofs.words.read_to_end.Goals as goal

pub returns-in_err-ratio : goal.returns-in_err-ratio
returns-in_err-ratio c = rw c.from_residual.ensures (no_ratio_to_end _ _ c.in_err-ratio.ensures.value)

pub returns-then-end-word : goal.returns-then-end-word
returns-then-end-word c = to_end _ _ _ _ c.in_ok-ratio.ensures.value (eq-eqb _ _ c.if-end-word.true)

pub returns-else-end-word : goal.returns-else-end-word
returns-else-end-word c = to_end _ _ _ _ c.in_ok-ratio.ensures.value (ne_eqb _ _ c.if-end-word.false)
