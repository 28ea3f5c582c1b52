use Rattle.std.proofs.Common.{rules, ap, sym, ◌∙◌, Some, arith}
use Rattle.command.proofs.NumberWords.{number_read, no_number_read, not_short, not_parsed, parsed_number}
use Rattle.command.proofs.numbers.read_number.Goals as goal

pub returns-then-not-is_short_number-clause-is : goal.returns-then-not-is_short_number-clause-is
returns-then-not-is_short_number-clause-is c =
    let short = rw c.as_bytes.ensures.value at c.is_short_number.ensures in
    no_number_read _ _ (not_short c.args.most c.args.word.now (λ s. let e = short.1 s in let not = c.if-not-is_short_number.true in absurd cc))

pub returns-in_err-n-clause-is : goal.returns-in_err-n-clause-is
returns-in_err-n-clause-is c =
    rw c.from_residual.ensures (no_number_read _ _ (not_parsed c.args.most c.args.word.now (search rules) c.parse.result c.parse.ensures.value.0 (sym c.ok.ensures.value ∙ c.in_err-n.was)))

pub returns-then-n-eq0-clause-is : goal.returns-then-n-eq0-clause-is
returns-then-n-eq0-clause-is c =
    let short = rw c.as_bytes.ensures.value at (c.is_short_number.ensures.0 (grind arith)) in
    let n = parsed_number c.args.most c.args.word.now c.in_ok-n.n c.parse.result c.parse.ensures.value.0 (sym c.ok.ensures.value ∙ c.in_ok-n.was) short.0 in
    no_number_read _ _ (λ h. let least = h.least in let most = h.within in let is = n.1 in grind arith)

pub returns-clause-is : goal.returns-clause-is
returns-clause-is c =
    let short = rw c.as_bytes.ensures.value at (c.is_short_number.ensures.0 (grind arith)) in
    let n = parsed_number c.args.most c.args.word.now c.in_ok-n.n c.parse.result c.parse.ensures.value.0 (sym c.ok.ensures.value ∙ c.in_ok-n.was) short.0 in
    let is = n.1 in
    ap Some n.1 ∙ number_read _ _ (record { numeral = n.0; short = short.1; least = grind arith; within = grind arith })
