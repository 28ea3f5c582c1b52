use Rattle.std.proofs.Common.{rules, ◌≡◌, ◌≢◌, slice_index}
use Rattle.std.proofs.lemmas.Bool.{eq-eqb, ne_eqb}
use Rattle.requests.proofs.Ratios.{no_ratio_before_comma, before_comma}
use Rattle.requests.proofs.words.read_before_comma.Goals as goal

pub returns-in_err-ratio-clause-value : goal.returns-in_err-ratio-clause-value
returns-in_err-ratio-clause-value c = rw c.from_residual.ensures (no_ratio_before_comma _ _ c.in_err-ratio.ensures.value)

pub returns-then-eq-clause-value : goal.returns-then-eq-clause-value
returns-then-eq-clause-value c =
    let is_comma : slice_index c.args.word.now c.in_ok-ratio.end ≡ 44 = search rules in
    before_comma _ _ _ _ c.in_ok-ratio.ensures.value (eq-eqb _ _ is_comma)

pub returns-else-eq-clause-value : goal.returns-else-eq-clause-value
returns-else-eq-clause-value c =
    let no_comma : slice_index c.args.word.now c.in_ok-ratio.end ≢ 44 = search rules in
    before_comma _ _ _ _ c.in_ok-ratio.ensures.value (ne_eqb _ _ no_comma)
